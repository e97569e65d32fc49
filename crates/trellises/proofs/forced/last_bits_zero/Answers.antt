-- The last two data bits are zero.
use Rattle.trellises.proofs.OuterTail.{last_zero}
use Rattle.trellises.proofs.forced.last_bits_zero.Goals as goal

pub returns : goal.returns
returns c = last_zero
