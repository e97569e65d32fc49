-- The bits of a block that is laid.
use Rattle.std.specs.Prelude.{ℕ, Bool}
use Rattle.encoder.specs.declared.block.Block.{Block}
use Rattle.encoder.specs.Encoding.{data_bits, interleaved_bit}

-- interleaved bit j of the block
abbrev pub sent_bit : Block → ℕ → Bool
sent_bit b = interleaved_bit b.plan.values (data_bits b.payload.bytes.now)
