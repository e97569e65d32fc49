use Rattle.std.proofs.Common.{arith}
use Rattle.cost_file.proofs.Sizes.{plan_sizes}
use Rattle.cost_file.proofs.writer.body_of.Goals as goal

pub overflow_cast-result : goal.overflow_cast-result
overflow_cast-result c = let z = plan_sizes c.args.plan in omega (arith, z.bits_high)
