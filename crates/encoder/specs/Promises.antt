-- What the encoder promises.
use Rattle.std.specs.Prelude.{◌≡◌, ℕ, ◌<◌, ◌≤◌, List, length, take, drop, Some, None, Ok, Err, Result, slice_index}
use Rattle.plans.specs.declared.values.PlanValues.{PlanValues}
use Rattle.plans.specs.declared.refusals.Refusal.{Refusal}
use Rattle.plans.specs.Plans.{symbols}
use Rattle.encoder.specs.Encoding.{encoded, encode_refusal}

abbrev pub AllBytes : List ℕ → Type 0
AllBytes xs = (k : ℕ) → slice_index xs k < 256

-- no other payload of the plan has these slots
abbrev pub OnlyPayload : PlanValues → List ℕ → Type 0
OnlyPayload v payload = (other : List ℕ) → AllBytes other → length other ≡ v.bytes → encoded v other ≡ encoded v payload → other ≡ payload

-- the first n bytes of a buffer are now the slots of the payload, the rest is as it was, and the slots tell the payload
pub record Encoded (v : PlanValues) (payload : List ℕ) (n : ℕ) (was is : List ℕ) : Type 0 where
  pub asked : encode_refusal v (length payload) (length was) ≡ None
  pub count : n ≡ symbols v
  pub room : n ≤ length is
  pub front : take n is ≡ encoded v payload
  pub tail : drop n is ≡ drop n was
  pub only : OnlyPayload v payload

-- the answer of the encoder and its buffer: encoded, or the first question answered no with the buffer as it was
abbrev pub Encodes : PlanValues → List ℕ → List ℕ → List ℕ → Result ℕ Refusal → Type 0
Encodes v payload was is (Ok n) = Encoded v payload n was is
Encodes v payload was is (Err refusal) = (encode_refusal v (length payload) (length was) ≡ Some refusal) × (is ≡ was)
