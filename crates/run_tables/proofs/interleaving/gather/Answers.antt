use Rattle.std.proofs.Common.{get_or, pos, arith}
use Rattle.plans.specs.Plans.{coded, interleaver}
use Rattle.run_tables.proofs.Written.{written}
use Rattle.run_tables.proofs.interleaving.gather.Goals as goal

pub returns : goal.returns
returns c =
    let v = c.args.plan.values in
    record { after = written (λ j. get_or c.args.g.now (interleaver v j) (pos 0)) (coded v) _ _ (pos 0) _ _ c.coded.ensures.value c.requires.1 (omega arith) c.loop-j-test.false c.loop-j.invariant }
