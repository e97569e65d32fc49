use Rattle.std.proofs.Common.{◌≡◌, ℕ, ◌+◌, ◌*◌, ◌<◌, get_or}
use Rattle.passes.specs.Tables.{Kept, dotted}
use Rattle.passes.proofs.columns.column.Given as goal

abbrev pub invariant-loop-y : goal.invariant-loop-y
invariant-loop-y g l =
    let o = g.W.Weights.ops in
    Kept o l.to l.states l.initial.table l.table
    × ((y : ℕ) → y < l.y → get_or l.table (l.to + y) o.none ≡ dotted o l.states l.initial.table l.from (l.metastage.place + y * l.metastage.col) l.metastage.row)
