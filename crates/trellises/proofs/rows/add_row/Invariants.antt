-- The words before w have their costs out of both states, the others are as they were.
use Rattle.std.proofs.Common.{◌≡◌, ℕ, ◌+◌, ◌-◌, ◌<◌, ◌≤◌, min, get_or}
use Rattle.trellises.proofs.rows.add_row.Given as goal

abbrev pub invariant-loop-w : goal.invariant-loop-w
invariant-loop-w l = record {
  zero : (v : ℕ) → v < l.w → get_or l.zero v 0 ≡ min (get_or l.row (get_or l.slots v 0) 0) 255 + get_or l.initial.zero v 0;
  one : (v : ℕ) → v < l.w → get_or l.one v 0 ≡ min (get_or l.row (l.size - 1 - get_or l.slots v 0) 0) 255 + get_or l.initial.zero v 0;
  rest : (v : ℕ) → l.w ≤ v → get_or l.one v 0 ≡ get_or l.initial.one v 0;
  kept : (v : ℕ) → l.w ≤ v → v < l.size → get_or l.zero v 0 ≡ get_or l.initial.zero v 0;
}
