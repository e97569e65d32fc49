-- What an opened file stands for.
use Rattle.std.proofs.Common.{◌≡◌, ℕ, true, leb, List, None, refl}
use Rattle.std.proofs.lemmas.Bool.{le-leb}
use Rattle.plans.specs.declared.values.PlanValues.{PlanValues}
use Rattle.cost_file.specs.Files.{plan_in, refusal_within, at_layer_two, length_fault, plan_record_fault, file_fault}
use Rattle.cost_file.proofs.Questions.{first_none, none_first}
use Rattle.cost_file.proofs.Sizes.{sizes}
use Rattle.cost_file.proofs.Canonical.{faultless}

-- a file that is accepted under a limit of one's own is accepted under the widest
pub accepted_wide : (most : ℕ) (f : List ℕ) → file_fault most f ≡ None → file_fault 1021 f ≡ None
unfolding file_fault
accepted_wide most f h =
    let v : PlanValues = plan_in f in
    let q = faultless most f h in
    let o1 = first_none (length_fault f) _ h in
    let o2 = first_none (plan_record_fault f) _ o1.1 in
    let o3 = first_none (at_layer_two (refusal_within most v)) _ o2.1 in
    let few : leb v.bytes 1021 ≡ true = le-leb v.bytes 1021 (sizes v q.plan).bytes_high in
    let refused : at_layer_two (refusal_within 1021 v) ≡ None = let p = q.plan in rw (few, p) refl in
    none_first _ _ o1.0 (none_first _ _ o2.0 (none_first _ _ refused o3.1))
