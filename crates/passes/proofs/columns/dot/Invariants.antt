use Rattle.std.proofs.Common.{◌≡◌}
use Rattle.passes.specs.Tables.{dotted}
use Rattle.passes.proofs.columns.dot.Given as goal

abbrev pub invariant-loop-x : goal.invariant-loop-x
invariant-loop-x g l = l.sum ≡ dotted g.W.Weights.ops l.x l.table l.from l.meta l.row
