use Rattle.modulo.proofs.Bits.{bits_stand}
use Rattle.modulo.proofs.laws.bits_stand_hold.Goals as goal

pub returns : goal.returns
returns c = bits_stand
