use Rattle.std.proofs.Common.{◌≡◌, ℕ, ◌+◌, ◌*◌, ◌<◌, ◌≤◌, get_or}
use Rattle.paths.specs.Metastages.{level_size, level_start}
use Rattle.passes.specs.Tables.{Beside}
use Rattle.passes.specs.Levels.{Levels}
use Rattle.passes.proofs.metastages.levels.Given as goal

abbrev pub invariant-loop-many : goal.invariant-loop-many
invariant-loop-many g l =
    let o = g.W.Weights.ops in
    let w = g.T.Trellis.states in
    let m = g.T.Trellis.meaning l.t in
    ((p : ℕ) → Beside (l.base + m.stages * (w * w)) (l.from + l.many * (w * w)) p → get_or l.table p o.none ≡ get_or l.initial.table p o.none)
    × (l.many ≡ level_size m.stages l.level)
    × ((1 ≤ l.many) × (l.level ≤ 14) × ((i : ℕ) → i < l.level → 1 < level_size m.stages i))
    × (l.from ≡ l.base + level_start m.stages l.level * (w * w))
    × Levels o w m l.base l.level l.table

abbrev pub decreases-loop-many : goal.decreases-loop-many
decreases-loop-many g l = l.many
