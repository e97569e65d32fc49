use Rattle.std.proofs.Common.{◌≡◌, ◌*◌, map, take}
use Rattle.std.specs.List.{range_with_len}
use Rattle.encoder.specs.Encoding.{held_before, data_bits, slot}
use Rattle.encoder.specs.Blocks.{sent_bit}
use Rattle.encoder.proofs.block.Block.lay.Given as goal

abbrev pub invariant-loop-k : goal.invariant-loop-k
invariant-loop-k l =
    (l.held ≡ held_before (sent_bit l.self) (l.k * l.self.plan.values.bits))
    × (take l.k l.out ≡ map (slot l.self.plan.values (data_bits l.self.payload.bytes.now)) (range_with_len 0 l.k))
