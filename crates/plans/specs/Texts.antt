-- What is written of a refusal and of the numbers of a plan.
use Rattle.std.specs.Prelude.{ℕ, List, ◌++◌, codes, decimal}
use Rattle.plans.specs.declared.refusals.Refusal.{Refusal}
use Rattle.plans.specs.declared.values.PlanValues.{PlanValues}
use Rattle.plans.specs.Refusals.{number_of}

-- a refusal: its number
abbrev pub refusal_text : Refusal → List ℕ
refusal_text refusal = decimal (number_of refusal)

-- a plan: its four numbers in their order, with a blank between them
abbrev pub plan_text : PlanValues → List ℕ
plan_text v = decimal v.bytes ++ codes " " ++ decimal v.bits ++ codes " " ++ decimal v.a ++ codes " " ++ decimal v.b
