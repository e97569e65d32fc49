use Rattle.modulo.proofs.Bits.{bits_fit}
use Rattle.modulo.proofs.laws.bits_fit_hold.Goals as goal

pub returns : goal.returns
returns c = bits_fit
