use Rattle.std.proofs.Common.{◌≡◌, ℕ, ◌<◌, get_or, pos}
use Rattle.plans.specs.Plans.{interleaver}
use Rattle.run_tables.proofs.interleaving.gather.Given as goal

abbrev pub invariant-loop-j : goal.invariant-loop-j
invariant-loop-j l = (k : ℕ) → k < l.j → get_or l.told-items k (pos 0) ≡ get_or l.g (interleaver l.plan.values k) (pos 0)
