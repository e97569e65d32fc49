use Rattle.std.proofs.Common.{◌≡◌, ◌+◌, ◌*◌}
use Rattle.encoder.specs.Encoding.{accumulated_bit, interleaved_bit, held_before, data_bits}
use Rattle.encoder.proofs.Symbols.{read}
use Rattle.encoder.proofs.block.Block.slot_of.Given as goal

abbrev pub invariant-loop-i : goal.invariant-loop-i
invariant-loop-i l =
    (l.acc ≡ held_before (interleaved_bit l.self.plan.values (data_bits l.self.payload.bytes.now)) (l.k * l.m + l.i))
    × (l.value ≡ read (accumulated_bit l.self.plan.values (data_bits l.self.payload.bytes.now)) (l.k * l.m) l.i)
