-- No data bit before the last two is forced.
use Rattle.trellises.proofs.OuterFree.{data_free}
use Rattle.trellises.proofs.forced.data_bits_free.Goals as goal

pub returns : goal.returns
returns c = data_free
