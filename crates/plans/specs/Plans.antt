-- A plan: the sizes that follow from its numbers, what is asked of them, and the interleaver.
use Rattle.std.specs.Prelude.{ℕ, ◌+◌, ◌*◌, ◌/◌, ◌%◌, ◌^◌, ◌<◌, ◌≤◌, Bool, ◌&&◌, Some, None, Option, ◌==◌, nat_le, nat_lt}
use Rattle.std.specs.Int.{◌∣◌}
use Rattle.plans.specs.declared.values.PlanValues.{PlanValues}
use Rattle.plans.specs.declared.refusals.Refusal.{Refusal}
use Rattle.plans.specs.declared.refusals.Refusal.TheVariants.{PayloadBytes, SymbolBits, Interleaver, Room, Lengths, FileLength, RecordCheck, RecordHead, LengthDue}
use Rattle.plans.specs.Divisors.{coprime, Coprime}
use Rattle.plans.specs.Refusals.{unless, first_of}

-- stages of the outer code, one for each payload bit, check bit and closing zero
abbrev pub stages : PlanValues → ℕ
stages v = 8 * v.bytes + 24

-- coded bits, two a stage
abbrev pub coded : PlanValues → ℕ
coded v = 2 * stages v

-- symbols of a block, and slots of a symbol
abbrev pub symbols : PlanValues → ℕ
symbols v = coded v / v.bits

abbrev pub slots : PlanValues → ℕ
slots v = 2 ^ v.bits

-- the interleaver: interleaved bit j is coded bit `interleaver v j`
abbrev pub interleaver : PlanValues → ℕ → ℕ
interleaver v j = (v.a * j + v.b * j * j) % coded v

-- the payload has a length that is served
pub record Sized (v : PlanValues) : Type 0 where
  pub low : 1 ≤ v.bytes
  pub high : v.bytes ≤ 1021

-- the coded bits fall into symbols with none left over
pub record Grouped (v : PlanValues) : Type 0 where
  pub low : 2 ≤ v.bits
  pub high : v.bits ≤ 8
  pub even : v.bits ∣ coded v

-- what makes the interleaver a permutation
pub record Permuting (v : PlanValues) : Type 0 where
  pub a_low : 1 ≤ v.a
  pub a_high : v.a < coded v
  pub b_high : v.b < coded v
  pub apart : Coprime v.a (coded v)
  pub vanishes : coded v ∣ v.b ^ 16

-- the same three as tests
abbrev pub sized : PlanValues → Bool
sized v = nat_le 1 v.bytes && nat_le v.bytes 1021

abbrev pub grouped : PlanValues → Bool
grouped v = nat_le 2 v.bits && nat_le v.bits 8 && coded v % v.bits == 0

abbrev pub permuting : PlanValues → Bool
permuting v = nat_le 1 v.a && nat_lt v.a (coded v) && nat_lt v.b (coded v) && coprime v.a (coded v) && v.b ^ 16 % coded v == 0

-- the first question answered no, if any is
unfoldable pub plan_refusal : PlanValues → Option Refusal
plan_refusal v = first_of (unless (sized v) PayloadBytes) (first_of (unless (grouped v) SymbolBits) (unless (permuting v) Interleaver))

-- what an answer to the questions says of the plan
abbrev pub Answered : PlanValues → Option Refusal → Type 0
Answered v None = Sized v × Grouped v × Permuting v
Answered v (Some PayloadBytes) = Sized v → ⊥
Answered v (Some SymbolBits) = Sized v × (Grouped v → ⊥)
Answered v (Some Interleaver) = Sized v × Grouped v × (Permuting v → ⊥)
Answered v (Some Room) = ⊥
Answered v (Some Lengths) = ⊥
Answered v (Some FileLength) = ⊥
Answered v (Some RecordCheck) = ⊥
Answered v (Some RecordHead) = ⊥
Answered v (Some LengthDue) = ⊥
