-- The words before w are doubled, the others are as they were.
use Rattle.std.proofs.Common.{◌≡◌, ℕ, ◌+◌, ◌-◌, ◌*◌, ◌%◌, ◌<◌, ◌≤◌, get_or, length}
use Rattle.trellises.proofs.slots.double.Given as goal

abbrev pub invariant-loop-w : goal.invariant-loop-w
invariant-loop-w l = record {
  low : (v : ℕ) → v < l.w → get_or l.low v 0 ≡ 2 * get_or l.initial.low v 0 + get_or l.initial.low v 0 % 2;
  high : (v : ℕ) → v < l.w → get_or l.high v 0 ≡ 2 * get_or l.initial.low v 0 + (1 - get_or l.initial.low v 0 % 2);
  kept : (v : ℕ) → l.w ≤ v → v < length l.low → get_or l.low v 0 ≡ get_or l.initial.low v 0;
}
