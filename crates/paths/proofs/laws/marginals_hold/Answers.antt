use Rattle.paths.proofs.Marginals.{marginals_are_joins}
use Rattle.paths.proofs.laws.marginals_hold.Goals as goal

pub returns : goal.returns
returns g c = marginals_are_joins {fine = g.W.Weights.fine} {o = g.W.Weights.ops}
