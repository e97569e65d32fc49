-- The costs of the edges before i are laid.
use Rattle.std.proofs.Common.{◌≡◌, ℕ, ◌<◌, get_or}
use Rattle.trellises.specs.Outer.{outer_at}
use Rattle.trellises.proofs.outer.OuterTrellis.costs.Given as goal

abbrev pub invariant-loop-i : goal.invariant-loop-i
invariant-loop-i l = (v : ℕ) → v < l.i → get_or l.cost-items v 0 ≡ (outer_at l.self.priors.now l.k v).cost
