use Rattle.std.specs.Iterator.Adapters.{enumerate_source, enumerate_count}
use Rattle.std.specs.Slice.Iter.{chunks_exact_rest, chunks_exact_size}
use Rattle.cost_file.proofs.Laying.{RowsPut}
use Rattle.cost_file.proofs.writer.Contents.put_rows.Given as goal

abbrev pub invariant-loop-k : goal.invariant-loop-k
invariant-loop-k l =
    let chunks = enumerate_source l.k-iterator in
    RowsPut l.self.plan.values l.self.rows.now (enumerate_count l.k-iterator) (chunks_exact_size chunks) (chunks_exact_rest chunks) l.initial.out l.out
