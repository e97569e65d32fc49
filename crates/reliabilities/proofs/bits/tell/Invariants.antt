-- The bits below b are told.
use Rattle.std.proofs.Common.{◌≡◌, ℕ, ◌<◌, None, slice_index_or}
use Rattle.marginals.specs.Words.{neither}
use Rattle.reliabilities.proofs.bits.tell.Given as goal

abbrev pub invariant-loop-b : goal.invariant-loop-b
invariant-loop-b g l =
    (b : ℕ) → b < l.b → slice_index_or l.out b None ≡ g.W.CostKeeping.told (slice_index_or l.found b (neither g.W.Weights.ops)).zero (slice_index_or l.found b (neither g.W.Weights.ops)).one
