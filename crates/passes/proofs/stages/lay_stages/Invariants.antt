use Rattle.std.proofs.Common.{◌≡◌, ℕ, ◌*◌, ◌<◌, get_or}
use Rattle.paths.specs.Columns.{parallel}
use Rattle.passes.specs.Tables.{Kept, stage_at}
use Rattle.passes.proofs.stages.lay_stages.Given as goal

abbrev pub invariant-loop-k : goal.invariant-loop-k
invariant-loop-k g l =
    let o = g.W.Weights.ops in
    let w = g.T.Trellis.states in
    let m = g.T.Trellis.meaning l.t in
    Kept o l.base (m.stages * (w * w)) l.initial.table l.table
    × ((k x y : ℕ) → k < l.k → x < w → y < w → get_or l.table (stage_at l.base w k x y) o.none ≡ parallel o (m.edges k) x y)
