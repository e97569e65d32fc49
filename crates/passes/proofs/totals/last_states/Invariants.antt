use Rattle.std.proofs.Common.{◌≡◌, cond, get_or}
use Rattle.paths.specs.Columns.{join_below}
use Rattle.passes.proofs.totals.last_states.Given as goal

abbrev pub invariant-loop-s : goal.invariant-loop-s
invariant-loop-s g l =
    let o = g.W.Weights.ops in
    l.sum ≡ join_below o l.s (λ s. cond ((g.T.Trellis.meaning l.t).last s) (get_or l.column s o.none) o.none)
