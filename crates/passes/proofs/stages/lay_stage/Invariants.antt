use Rattle.std.proofs.Common.{◌≡◌, ℕ, ◌+◌, ◌*◌, ◌<◌, get_or, take}
use Rattle.paths.specs.Columns.{parallel}
use Rattle.passes.proofs.stages.lay_stage.Given as goal

abbrev pub invariant-loop-i : goal.invariant-loop-i
invariant-loop-i g l =
    let o = g.W.Weights.ops in
    let w = g.T.Trellis.states in
    let es = (g.T.Trellis.meaning l.stage.trellis.now).edges l.stage.number in
    (x y : ℕ) → x < w → y < w → get_or l.metastage (x * w + y) o.none ≡ parallel o (take l.i es) x y
