use Rattle.paths.proofs.Passes.{columns_are_joins}
use Rattle.paths.proofs.laws.columns_hold.Goals as goal

pub returns : goal.returns
returns g c = columns_are_joins {fine = g.W.Weights.fine} {o = g.W.Weights.ops}
