use Rattle.paths.proofs.BitJoins.{bits_are_joins}
use Rattle.paths.proofs.laws.bits_hold.Goals as goal

pub returns : goal.returns
returns g c = bits_are_joins {fine = g.W.Weights.fine} {o = g.W.Weights.ops}
