-- The rows of a clean block: the sent slots cost nothing, all others the same.
use Rattle.std.specs.Prelude.{◌≡◌, ℕ, ◌*◌, ◌/◌, ◌%◌, ◌≤◌, cond, List, map, length, take, drop, Some, None, Ok, Err, Option, Result, ◌==◌, nat_le, slice_index}
use Rattle.std.specs.List.{range_with_len}
use Rattle.plans.specs.declared.values.PlanValues.{PlanValues}
use Rattle.plans.specs.declared.refusals.Refusal.{Refusal}
use Rattle.plans.specs.declared.refusals.Refusal.TheVariants.{Room, Lengths}
use Rattle.plans.specs.Refusals.{unless, first_of}
use Rattle.plans.specs.Plans.{symbols, slots, plan_refusal}

-- with m slots a symbol, the cost of slot i % m of symbol i / m
abbrev pub clean_cost : ℕ → List ℕ → ℕ → ℕ → ℕ
clean_cost m sent cost i = cond (i % m == slice_index sent (i / m)) 0 cost

-- the costs of all symbols, one row after another
unfoldable pub clean_rows : PlanValues → List ℕ → ℕ → List ℕ
clean_rows v sent cost = map (clean_cost (slots v) sent cost) (range_with_len 0 (symbols v * slots v))

-- the first question answered no, where `len` slots are given and the output has `room` bytes
unfoldable pub clean_refusal : PlanValues → ℕ → ℕ → Option Refusal
clean_refusal v len room =
    first_of (plan_refusal v) (first_of (unless (len == symbols v) Lengths) (unless (nat_le (symbols v * slots v) room) Room))

-- the first n bytes of a buffer are now the rows of a clean block, the rest is as it was
pub record Laid (v : PlanValues) (sent : List ℕ) (cost n : ℕ) (was is : List ℕ) : Type 0 where
  pub asked : clean_refusal v (length sent) (length was) ≡ None
  pub count : n ≡ symbols v * slots v
  pub room : n ≤ length is
  pub front : take n is ≡ clean_rows v sent cost
  pub tail : drop n is ≡ drop n was

abbrev pub Lays : PlanValues → List ℕ → ℕ → List ℕ → List ℕ → Result ℕ Refusal → Type 0
Lays v sent cost was is (Ok n) = Laid v sent cost n was is
Lays v sent cost was is (Err refusal) = (clean_refusal v (length sent) (length was) ≡ Some refusal) × (is ≡ was)
