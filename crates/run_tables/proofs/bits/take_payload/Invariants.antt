use Rattle.std.proofs.Common.{◌≡◌, ℕ, ◌*◌, ◌<◌, map, get_or}
use Rattle.std.specs.List.{range_with_len}
use Rattle.polynomial.specs.Polynomials.{value}
use Rattle.run_model.specs.Model.{decided_bit}
use Rattle.run_tables.proofs.bits.take_payload.Given as goal

abbrev pub invariant-loop-i : goal.invariant-loop-i
invariant-loop-i l = (k : ℕ) → k < l.i → get_or l.byte-items k 0 ≡ value (map (decided_bit l.d) (range_with_len (8 * k) 8))
