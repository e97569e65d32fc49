use Rattle.std.proofs.Common.{◌≡◌}
use Rattle.plans.specs.Plans.{interleaver}
use Rattle.run_model.specs.Tables.{placed}
use Rattle.run_tables.proofs.interleaving.place.Given as goal

abbrev pub invariant-loop-j : goal.invariant-loop-j
invariant-loop-j l = l.x ≡ placed (interleaver l.plan.values) l.j l.e l.initial.x
