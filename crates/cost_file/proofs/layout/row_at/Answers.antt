use Rattle.std.proofs.Common.{◌≡◌, ◌+◌, ◌*◌, ap, arith}
use Rattle.cost_file.specs.Files.{row_at}
use Rattle.cost_file.proofs.Sizes.{plan_sizes, row_early}
use Rattle.cost_file.proofs.layout.row_at.Goals as goal
use Rattle.cost_file.proofs.layout.row_at.Goals.{After-slots}

-- the sum is what a row's place is, which lies within the file
place : (c : After-slots) → c.args.k * (c.slots.result + 8) + 16 ≡ row_at c.args.plan.values c.args.k
place c = let e = ap (λ w. c.args.k * (w + 8)) c.slots.ensures.value in omega arith

pub overflow_mul-result : goal.overflow_mul-result
overflow_mul-result c =
    let d = (goal.at.overflow_mul-result c).After-slots in
    let e = place d in
    let r = row_early c.args.plan.values c.args.k c.requires in
    let z = (plan_sizes c.args.plan).file_high in omega arith

pub overflow_add-result-2 : goal.overflow_add-result-2
overflow_add-result-2 c =
    let d = (goal.at.overflow_add-result-2 c).After-slots in
    let e = place d in
    let r = row_early c.args.plan.values c.args.k c.requires in
    let z = (plan_sizes c.args.plan).file_high in omega arith

pub returns : goal.returns
returns c =
    let d = (goal.at.returns c).After-slots in
    let e = place d in
    let r = row_early c.args.plan.values c.args.k c.requires in
    let z = (plan_sizes c.args.plan).file_high in
    record { value = omega arith; bound = omega arith }
