use Rattle.std.proofs.Common.{arith}
use Rattle.std.proofs.lemmas.Grind.{common_steps}
use Rattle.std.proofs.lemmas.List.FromFn.{length-map-range_with_len}
use Rattle.trellises.proofs.inner.InnerTrellis.edge_count.Goals as goal

pub returns : goal.returns
returns c = grind (arith, common_steps, length-map-range_with_len)
