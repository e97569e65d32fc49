use Rattle.paths.proofs.Groupings.{groupings_agree}
use Rattle.paths.proofs.laws.groupings_hold.Goals as goal

pub returns : goal.returns
returns g c = groupings_agree {fine = g.W.Weights.fine} {o = g.W.Weights.ops}
