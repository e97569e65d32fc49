use Rattle.std.proofs.Common.{◌≡◌, ℕ, ◌<◌, ◌≤◌, get_or}
use Rattle.paths.specs.Columns.{backward}
use Rattle.passes.specs.Tables.{Kept, columns_size, backward_at}
use Rattle.passes.proofs.columns.backward.Given as goal

abbrev pub invariant-loop-k : goal.invariant-loop-k
invariant-loop-k g l =
    let o = g.W.Weights.ops in
    let w = g.T.Trellis.states in
    let m = g.T.Trellis.meaning l.t in
    Kept o (columns_size w m.stages) (columns_size w m.stages) l.initial.table l.table
    × ((k s : ℕ) → l.k ≤ k → k ≤ m.stages → s < w → get_or l.table (backward_at w m.stages k s) o.none ≡ backward o w m k s)
