use Rattle.std.proofs.Common.{◌≡◌, ◌+◌, ◌*◌, cond}
use Rattle.std.specs.Prelude.{slice_range}
use Rattle.paths.specs.Columns.{join_below}
use Rattle.passes.specs.Totals.{in_last}
use Rattle.passes.proofs.totals.first_to_last.Given as goal

abbrev pub invariant-loop-s : goal.invariant-loop-s
invariant-loop-s g l =
    let o = g.W.Weights.ops in
    let w = g.T.Trellis.states in
    let m = g.T.Trellis.meaning l.t in
    l.sum ≡ join_below o l.s (λ s. cond (m.first s) (in_last o w m (slice_range l.metastage (s * w) ((s + 1) * w))) o.none)
