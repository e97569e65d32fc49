use Rattle.std.proofs.Common.{◌≡◌, ◌^◌, ◌<◌}
use Rattle.polynomial.specs.Polynomials.{value, remainder}
use Rattle.run_model.specs.Model.{decided_bits}
use Rattle.run_tables.proofs.bits.remainder_of.Given as goal

abbrev pub invariant-loop-bit : goal.invariant-loop-bit
invariant-loop-bit l = record { read : l.r ≡ value (remainder (decided_bits l.bit-index l.d)); low : l.r < 2 ^ 22 }
