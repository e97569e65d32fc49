-- Before bit j the table has the slots of the words of j bits.
use Rattle.std.proofs.Common.{◌≡◌, ℕ, ◌^◌, ◌<◌, get_or}
use Rattle.trellises.specs.Inner.{slot_of}
use Rattle.trellises.proofs.slots.slot_table.Given as goal

abbrev pub invariant-loop-j : goal.invariant-loop-j
invariant-loop-j l = (w : ℕ) → w < 2 ^ l.j → get_or l.slots w 0 ≡ slot_of 0 w l.j
