use Rattle.std.proofs.Common.{◌≡◌, ℕ, ◌+◌, ◌*◌, ◌<◌, get_or}
use Rattle.passes.specs.Tables.{Kept, dotted}
use Rattle.passes.proofs.metastages.product.Given as goal

abbrev pub invariant-loop-s : goal.invariant-loop-s
invariant-loop-s g l =
    let o = g.W.Weights.ops in
    Kept o l.to (l.states * l.states) l.initial.table l.table
    × ((s t : ℕ) → s < l.s → t < l.states → get_or l.table (l.to + (s * l.states + t)) o.none ≡ dotted o l.states l.initial.table (l.left + s * l.states) (l.right + t) l.states)
