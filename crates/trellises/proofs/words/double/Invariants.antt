-- The words before w stand once more, with the bit set.
use Rattle.std.proofs.Common.{◌≡◌, ℕ, ◌+◌, ◌<◌, ◌≤◌, get_or}
use Rattle.trellises.proofs.words.double.Given as goal

abbrev pub invariant-loop-w : goal.invariant-loop-w
invariant-loop-w l = record {
  set : (v : ℕ) → v < l.w → get_or l.high v 0 + l.zero ≡ get_or l.paid-items v 0 + l.one;
  rest : (v : ℕ) → l.w ≤ v → get_or l.high v 0 ≡ get_or l.initial.high v 0;
}
