use Rattle.std.proofs.Common.{◌≡◌, ◌*◌, ◌%◌, ◌^◌, ◌≤◌, arith, pow_mono}
use Rattle.std.proofs.lemmas.Nat.{one_shl}
use Rattle.plans.proofs.accepted.Plan.slots.Goals as goal

pub returns-clause-bound : goal.returns-clause-bound
returns-clause-bound c =
    let e : (1 * 2 ^ c.bits.result) % 2 ^ 64 ≡ 2 ^ c.bits.result = one_shl c.bits.result 64 (omega arith) in
    let low : 2 ^ 2 ≤ 2 ^ c.bits.result = pow_mono c.bits.ensures.bound.0 in
    let high : 2 ^ c.bits.result ≤ 2 ^ 8 = pow_mono c.bits.ensures.bound.1 in
    (rw e low, rw e high)
