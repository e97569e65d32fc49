use Rattle.modulo.proofs.Spread.{columns_spread}
use Rattle.modulo.proofs.laws.spread_holds.Goals as goal

pub returns : goal.returns
returns c = columns_spread
