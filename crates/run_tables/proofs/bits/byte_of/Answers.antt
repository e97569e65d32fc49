use Rattle.std.proofs.Common.{arith}
use Rattle.polynomial.proofs.OneMore.{bit_of, bit_low}
use Rattle.run_model.specs.Model.{decided_bit}
use Rattle.run_tables.proofs.Decided.{number_more, number_low}
use Rattle.run_tables.proofs.bits.byte_of.Goals as goal

pub overflow_mul-value : goal.overflow_mul-value
overflow_mul-value c = let l = number_low c.args.bits.now c.loop-bit.bit-index (omega arith) in omega (arith, c.loop-bit.invariant)

pub overflow_add-value : goal.overflow_add-value
overflow_add-value c =
    let l = number_low c.args.bits.now c.loop-bit.bit-index (omega arith) in
    let b = bit_of (decided_bit c.args.bits.now c.loop-bit.bit-index) c.from.result c.from.ensures in
    let o = bit_low (decided_bit c.args.bits.now c.loop-bit.bit-index) in
    omega (arith, c.loop-bit.invariant)

pub loop-bit-preserved : goal.loop-bit-preserved
loop-bit-preserved c =
    let b = bit_of (decided_bit c.args.bits.now c.loop-bit.bit-index) c.from.result c.from.ensures in
    omega (arith, c.loop-bit.invariant, number_more c.args.bits.now c.loop-bit.bit-index)
