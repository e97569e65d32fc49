use Rattle.std.proofs.Common.{◌≡◌, ℕ, ◌<◌, get_or, None, rules, refl, ◌∙◌, arith}
use Rattle.cost_file.specs.Files.{file_fault}
use Rattle.cost_file.proofs.Opened.{accepted_wide}
use Rattle.cost_file.proofs.Canonical.{canonical}
use Rattle.cost_file.proofs.opening.open_within.Goals as goal

pub invariant_of-result : goal.invariant_of-result
unfolding file_fault
invariant_of-result c =
    let none : file_fault c.args.most c.args.file.now ≡ None = search rules in
    record { whole = record { accepted = accepted_wide c.args.most c.args.file.now none; values = c.in_ok-plan.ensures.cases.0 ∙ c.read_plan.ensures.value } }

pub returns : goal.returns
unfolding file_fault
returns c =
    let f = c.args.file.now in
    let none : file_fault c.args.most f ≡ None = search rules in
    let small : (k : ℕ) → get_or f k 0 < 256 = λ k. let t = c.type_inv.file k in omega arith in
    record { cases = record { file = refl; first = refl; accepted = canonical c.args.most f small none } }
