use Rattle.modulo.proofs.Bits.{bits_near}
use Rattle.modulo.proofs.laws.bits_near_hold.Goals as goal

pub returns : goal.returns
returns c = bits_near
