use Rattle.std.proofs.Common.{◌≡◌, ℕ, ◌+◌, ◌*◌, ◌/◌, ◌<◌, get_or}
use Rattle.passes.specs.Tables.{Kept, dotted}
use Rattle.passes.proofs.metastages.pairs.Given as goal

abbrev pub invariant-loop-j : goal.invariant-loop-j
invariant-loop-j g l =
    let o = g.W.Weights.ops in
    let q = l.states * l.states in
    Kept o l.to ((l.many + 1) / 2 * q) l.initial.table l.table
    × ((j s t : ℕ) → j < l.j → s < l.states → t < l.states → get_or l.table (l.to + j * q + (s * l.states + t)) o.none
    ≡ dotted o l.states l.initial.table (l.from + 2 * j * q + s * l.states) (l.from + 2 * j * q + q + t) l.states)
