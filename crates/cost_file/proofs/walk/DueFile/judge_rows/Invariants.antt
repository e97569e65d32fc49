use Rattle.std.specs.Iterator.Adapters.{enumerate_source, enumerate_count}
use Rattle.std.specs.Slice.Iter.{chunks_exact_rest, chunks_exact_size}
use Rattle.cost_file.proofs.Judged.{RowsLeft}
use Rattle.cost_file.proofs.walk.DueFile.judge_rows.Given as goal

abbrev pub invariant-loop-k : goal.invariant-loop-k
invariant-loop-k l =
    let chunks = enumerate_source l.k-iterator in
    RowsLeft l.self.plan.values l.self.file.now (enumerate_count l.k-iterator) (chunks_exact_size chunks) (chunks_exact_rest chunks)
