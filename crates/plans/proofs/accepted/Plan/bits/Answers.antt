use Rattle.plans.proofs.Answering.{accepted}
use Rattle.plans.proofs.accepted.Plan.bits.Goals as goal

pub returns-clause-bound : goal.returns-clause-bound
returns-clause-bound c = let a = accepted c.args.self.values c.args.self.accepted in (a.1.low, a.1.high)
