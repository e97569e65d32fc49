-- No interleaved bit is forced.
use Rattle.trellises.proofs.InnerFree.{interleaved_free}
use Rattle.trellises.proofs.forced.interleaved_bits_free.Goals as goal

pub returns : goal.returns
returns c = interleaved_free
