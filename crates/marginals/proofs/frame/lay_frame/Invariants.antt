-- A frame is laid row by row.
use Rattle.std.proofs.Common.{◌≡◌, ℕ, ◌*◌, ◌≤◌, length, get_or}
use Rattle.marginals.proofs.Frames.{FrameLaid}
use Rattle.marginals.proofs.frame.lay_frame.Given as goal

abbrev pub invariant-loop-s : goal.invariant-loop-s
invariant-loop-s g l = record {
  laid : FrameLaid g.W.Weights.ops l.before l.after (length l.after) l.s l.frame;
  rest : (p : ℕ) → l.s * length l.after ≤ p → get_or l.frame p g.W.Weights.ops.none ≡ get_or l.initial.frame p g.W.Weights.ops.none;
}
