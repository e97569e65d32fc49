use Rattle.std.proofs.Common.{◌≡◌, ℕ, ◌<◌, Bool, cond, get_or}
use Rattle.passes.proofs.columns.border.Given as goal

abbrev pub invariant-loop-s : goal.invariant-loop-s
invariant-loop-s g l =
    let o = g.W.Weights.ops in
    (s : ℕ) → s < l.s → (b : Bool) × goal.F-post g l.may s b × (get_or l.column s o.none ≡ cond b o.unit o.none)
