use Rattle.std.proofs.Common.{◌≡◌}
use Rattle.polynomial.specs.Polynomials.{value}
use Rattle.run_model.specs.Model.{decided_bits}
use Rattle.run_tables.proofs.bits.byte_of.Given as goal

abbrev pub invariant-loop-bit : goal.invariant-loop-bit
invariant-loop-bit l = l.value ≡ value (decided_bits l.bit-index l.bits)
