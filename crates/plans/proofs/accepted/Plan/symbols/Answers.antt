use Rattle.std.proofs.Common.{◌≡◌, ◌*◌, ◌/◌}
use native.Mathlib.Nat.{div-mul_cancel}
use Rattle.plans.specs.Plans.{coded}
use Rattle.plans.proofs.Answering.{accepted}
use Rattle.plans.proofs.accepted.Plan.symbols.Goals as goal

pub returns-clause-whole : goal.returns-clause-whole
returns-clause-whole c =
    let v = c.args.self.values in
    let e : coded v / v.bits * v.bits ≡ coded v = div-mul_cancel _ (accepted v c.args.self.accepted).1.even in
    rw (c.coded.ensures.value, c.bits.ensures.value) e
