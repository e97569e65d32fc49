use Rattle.std.proofs.lemmas.Bool.{lt-ltb}
use Rattle.paths.proofs.stage.Stage.costs.Goals as goal

pub returns-clause-laid : goal.returns-clause-laid
returns-clause-laid g c i e at = let b = lt-ltb c.args.self.now.number (g.T.Trellis.meaning c.args.self.now.trellis.now).stages c.args.self.now.inside in c.costs.ensures.laid i e (rw b at)
