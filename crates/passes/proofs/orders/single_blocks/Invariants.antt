use Rattle.std.proofs.Common.{◌≡◌, ℕ, ◌+◌, ◌<◌}
use Rattle.passes.specs.Orders.{span_at}
use Rattle.passes.proofs.orders.single_blocks.Given as goal

abbrev pub invariant-loop-k : goal.invariant-loop-k
invariant-loop-k l = (k : ℕ) → k < l.k → span_at l.spans k ≡ record { end = k + 1; begin = k }
