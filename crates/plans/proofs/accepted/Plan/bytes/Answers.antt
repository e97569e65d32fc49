use Rattle.plans.proofs.Answering.{accepted}
use Rattle.plans.proofs.accepted.Plan.bytes.Goals as goal

pub returns-clause-bound : goal.returns-clause-bound
returns-clause-bound c = let a = accepted c.args.self.values c.args.self.accepted in (a.0.low, a.0.high)
