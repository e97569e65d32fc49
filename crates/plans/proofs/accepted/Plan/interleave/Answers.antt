use Rattle.std.proofs.Common.{ℕ, ◌+◌, ◌*◌, ◌^◌, ◌<◌, ◌≤◌, mul-le-mul, arith}
use Rattle.plans.proofs.Answering.{accepted, permutation}
use Rattle.plans.proofs.accepted.Plan.interleave.Goals as goal

pub returns-then-j-n-clause-permutes : goal.returns-then-j-n-clause-permutes
returns-then-j-n-clause-permutes c = permutation c.args.self.values (accepted c.args.self.values c.args.self.accepted).2

fits_both : (a b j : ℕ) → a ≤ 16384 → b ≤ 16384 → j ≤ 16384 → a * j + b * j * j < 2 ^ 64
fits_both a b j p q r =
    let s : a * j ≤ 16384 * 16384 = mul-le-mul p r in
    let t : b * j ≤ 16384 * 16384 = mul-le-mul q r in
    let u : b * j * j ≤ 16384 * 16384 * 16384 = mul-le-mul t r in
    omega arith

pub overflow_add-result : goal.overflow_add-result
overflow_add-result c =
    let a = accepted c.args.self.values c.args.self.accepted in
    let f = fits_both c.args.self.values.a c.args.self.values.b c.args.j (omega arith) (omega arith) (omega arith) in omega arith

pub returns-clause-permutes : goal.returns-clause-permutes
returns-clause-permutes c = permutation c.args.self.values (accepted c.args.self.values c.args.self.accepted).2
