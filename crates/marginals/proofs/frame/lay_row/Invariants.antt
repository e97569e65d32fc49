-- A row of a frame is laid place by place.
use Rattle.std.proofs.Common.{◌≡◌, ℕ, ◌<◌, slice_index_or}
use Rattle.marginals.specs.Words.{entry_of}
use Rattle.marginals.proofs.frame.lay_row.Given as goal

abbrev pub invariant-loop-t : goal.invariant-loop-t
invariant-loop-t g l = (t : ℕ) → t < l.t → slice_index_or l.row t g.W.Weights.ops.none ≡ g.W.Weights.ops.chain l.x (entry_of g.W.Weights.ops l.after t)
