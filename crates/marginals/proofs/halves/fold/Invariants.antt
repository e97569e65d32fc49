-- The bits from b on are folded.
use Rattle.marginals.proofs.Folds.{Folded}
use Rattle.marginals.proofs.halves.fold.Given as goal

abbrev pub invariant-loop-b : goal.invariant-loop-b
invariant-loop-b g l = Folded g.W.Weights.ops l.bits l.b l.initial.words l.words l.initial.found l.found
