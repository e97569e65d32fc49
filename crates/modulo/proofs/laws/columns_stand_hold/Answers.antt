use Rattle.modulo.proofs.Stand.{columns_stand}
use Rattle.modulo.proofs.laws.columns_stand_hold.Goals as goal

pub returns : goal.returns
returns c = columns_stand
