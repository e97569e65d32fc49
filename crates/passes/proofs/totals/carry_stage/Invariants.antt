use Rattle.std.proofs.Common.{◌≡◌, ℕ, ◌<◌, get_or, take}
use Rattle.passes.specs.Totals.{by_edges}
use Rattle.passes.proofs.totals.carry_stage.Given as goal

abbrev pub invariant-loop-i : goal.invariant-loop-i
invariant-loop-i g l =
    let o = g.W.Weights.ops in
    let es = (g.T.Trellis.meaning l.stage.trellis.now).edges l.stage.number in
    (s : ℕ) → s < g.T.Trellis.states → get_or l.after s o.none ≡ by_edges o l.before (take l.i es) s
