-- The words below x are taken together with those of the upper half.
use Rattle.marginals.proofs.Halvings.{HalfWay}
use Rattle.marginals.proofs.halves.halve.Given as goal

abbrev pub invariant-loop-x : goal.invariant-loop-x
invariant-loop-x g l = HalfWay g.W.Weights.ops l.x l.initial.lows l.highs l.lows l.zero l.one
