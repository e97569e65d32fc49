-- No coded bit is forced.
use Rattle.trellises.proofs.OuterFree.{coded_free}
use Rattle.trellises.proofs.forced.coded_bits_free.Goals as goal

pub returns : goal.returns
returns c = coded_free
