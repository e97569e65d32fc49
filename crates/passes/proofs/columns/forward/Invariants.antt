use Rattle.std.proofs.Common.{◌≡◌, ℕ, ◌<◌, ◌≤◌, get_or}
use Rattle.paths.specs.Columns.{forward}
use Rattle.passes.specs.Tables.{Kept, columns_size, forward_at}
use Rattle.passes.proofs.columns.forward.Given as goal

abbrev pub invariant-loop-k : goal.invariant-loop-k
invariant-loop-k g l =
    let o = g.W.Weights.ops in
    let w = g.T.Trellis.states in
    let m = g.T.Trellis.meaning l.t in
    Kept o 0 (columns_size w m.stages) l.initial.table l.table
    × ((k s : ℕ) → k ≤ l.k → s < w → get_or l.table (forward_at w k s) o.none ≡ forward o w m k s)
