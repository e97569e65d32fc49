use Rattle.modulo.proofs.LeftOut.{prior_left_out}
use Rattle.modulo.proofs.laws.prior_left_out_holds.Goals as goal

pub returns : goal.returns
returns c = prior_left_out
