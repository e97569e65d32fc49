-- The table doubles with each bit.
use Rattle.trellises.proofs.SlotLaws.{slots_doubled}
use Rattle.trellises.proofs.slots.slot_table.Goals as goal

pub loop-j-preserved : goal.loop-j-preserved
loop-j-preserved c =
    slots_doubled c.loop-j.j c.word_count.result c.loop-j.slots c.double.new.slots c.word_count.ensures c.loop-j.invariant c.double.ensures.low
    c.double.ensures.high
