use Rattle.std.proofs.Common.{◌≡◌, map, take}
use Rattle.std.specs.List.{range_with_len}
use Rattle.encoder.specs.Clean.{clean_cost}
use Rattle.encoder.proofs.clean.fill.Given as goal

abbrev pub invariant-loop-i : goal.invariant-loop-i
invariant-loop-i l = take l.i l.rows ≡ map (clean_cost l.m l.sent l.cost) (range_with_len 0 l.i)
