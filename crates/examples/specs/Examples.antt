-- Worked examples, computed from the definitions that the contracts cite.
use Rattle.std.specs.Prelude.{◌≡◌, ℕ, [], ◌∷◌, ℤ, pos, negsuc, Some, None, Option}
use Rattle.plans.specs.declared.values.PlanValues.{PlanValues}
use Rattle.plans.specs.declared.refusals.Refusal.{Refusal}
use Rattle.plans.specs.Refusals.{number_of}
use Rattle.plans.specs.Plans.{stages, coded, symbols, slots, interleaver, plan_refusal}
use Rattle.polynomial.specs.Bytes.{check_of}
use Rattle.encoder.specs.Encoding.{encoded}
use Rattle.paths.specs.Trellises.{Meaning}
use Rattle.paths.specs.Paths.{path_join, paths_with}
use Rattle.paths.specs.Least.{least}
use Rattle.modulo.specs.Modulo.{reliability}
use Rattle.modulo.specs.Priors.{extrinsic}
use Rattle.trellises.specs.Inner.{inner}

abbrev pub plan_of : ℕ → ℕ → ℕ → ℕ → PlanValues
plan_of bytes bits a b = record { bytes = bytes; bits = bits; a = a; b = b }

-- the number that a plan is refused by, 0 where it is accepted
abbrev pub refused_by : Option Refusal → ℕ
refused_by None = 0
refused_by (Some refusal) = number_of refusal

-- two symbols of two bits, with priors of zero
abbrev pub two_symbols : Meaning
two_symbols = inner 2 2 (0 ∷ 3 ∷ 5 ∷ 9 ∷ 2 ∷ 0 ∷ 4 ∷ 1 ∷ []) (pos 0 ∷ pos 0 ∷ pos 0 ∷ pos 0 ∷ [])

-- the reliability of bit b of symbol k, over all its paths
abbrev pub reliability_there : ℕ → ℕ → Option ℤ
reliability_there k b = reliability (path_join least (paths_with 2 two_symbols k b 0)) (path_join least (paths_with 2 two_symbols k b 1))

pub record WorkedExamples : Type 0 where
  -- 942 payload bytes in symbols of 6 bits
  pub large_stages : stages (plan_of 942 6 11 210) ≡ 7560
  pub large_coded : coded (plan_of 942 6 11 210) ≡ 15120
  pub large_symbols : symbols (plan_of 942 6 11 210) ≡ 2520
  pub large_slots : slots (plan_of 942 6 11 210) ≡ 64
  pub large_accepted : refused_by (plan_refusal (plan_of 942 6 11 210)) ≡ 0
  pub interleaved_1 : interleaver (plan_of 942 6 11 210) 1 ≡ 221
  pub interleaved_15101 : interleaver (plan_of 942 6 11 210) 15101 ≡ 1
  pub interleaved_439 : interleaver (plan_of 942 6 11 210) 439 ≡ 15119
  -- refused plans
  pub factor_refused : refused_by (plan_refusal (plan_of 942 6 11 30)) ≡ 3
  pub no_payload_refused : refused_by (plan_refusal (plan_of 0 6 11 210)) ≡ 1
  pub long_payload_refused : refused_by (plan_refusal (plan_of 1022 6 11 210)) ≡ 1
  pub bits_refused : refused_by (plan_refusal (plan_of 1 6 7 16)) ≡ 2
  -- one payload byte of value 1 in symbols of 4 bits
  pub small_accepted : refused_by (plan_refusal (plan_of 1 4 7 16)) ≡ 0
  pub check_of_one : check_of (1 ∷ []) ≡ 57
  pub slots_of_one : encoded (plan_of 1 4 7 16) (1 ∷ []) ≡ 3 ∷ 15 ∷ 7 ∷ 14 ∷ 12 ∷ 1 ∷ 11 ∷ 12 ∷ 0 ∷ 7 ∷ 14 ∷ 0 ∷ 1 ∷ 13 ∷ 15 ∷ 11 ∷ []
  -- two symbols, rows 0 3 5 9 and 2 0 4 1
  pub first_bit : reliability_there 0 0 ≡ Some (negsuc 4)
  pub second_bit : reliability_there 0 1 ≡ Some (negsuc 2)
  pub third_bit : reliability_there 1 0 ≡ Some (negsuc 0)
  pub fourth_bit : reliability_there 1 1 ≡ Some (pos 1)
  -- reliability 600 under prior 5 is sent on as 511
  pub held_at_511 : extrinsic (pos 600) (pos 5) ≡ pos 511
