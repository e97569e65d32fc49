-- The costs of the mirrored stage.
use Rattle.trellises.proofs.Reversals.{turned_costs}
use Rattle.trellises.proofs.reversed.ReversedTrellis.costs.Goals as goal

pub returns-in-Some-clause-laid : goal.returns-in-Some-clause-laid
returns-in-Some-clause-laid g c =
    turned_costs (g.T.Trellis.meaning c.args.self.now.inner.now) c.args.k c.in-Some.mirrored c.in-Some.ensures.mirrored c.costs.new.out c.costs.ensures.laid
