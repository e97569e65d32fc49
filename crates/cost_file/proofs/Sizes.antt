-- The sizes of an accepted plan, and that its file is never too long.
use Rattle.std.proofs.Common.{◌≡◌, ℕ, zero, suc, ◌+◌, ◌*◌, ◌^◌, ◌<◌, ◌≤◌, None, sym, ap, ◌∙◌, subst, mul_assoc, mul_comm, mul-le-mul_left, mul-le-mul_right, arith, pow_mono}
use native.Mathlib.Nat.{div-mul_cancel}
use Rattle.plans.specs.declared.accepted.Plan.{Plan}
use Rattle.plans.specs.declared.values.PlanValues.{PlanValues}
use Rattle.plans.specs.Plans.{coded, symbols, slots, plan_refusal, Sized, Grouped, Permuting, Answered}
use Rattle.plans.proofs.Answering.{answered}
use Rattle.cost_file.specs.Files.{row_at, rows_end}

pub record Sizes (v : PlanValues) : Type 0 where
  pub bytes_low : 1 ≤ v.bytes
  pub bytes_high : v.bytes ≤ 1021
  pub a_small : v.a < 65536
  pub b_small : v.b < 65536
  pub bits_high : v.bits ≤ 8
  pub slots_high : slots v ≤ 256
  pub symbols_high : symbols v ≤ 8192
  pub file_high : rows_end v + v.bytes + 8 ≤ 600000

-- a row's record takes at most 33 bytes for each of its bits
row_room : (m : ℕ) → 2 ≤ m → m ≤ 8 → 2 ^ m + 8 ≤ 33 * m
row_room zero l h = absurd (omega arith)
row_room (suc zero) l h = absurd (omega arith)
row_room (suc (suc zero)) l h = omega arith
row_room (suc (suc (suc zero))) l h = omega arith
row_room (suc (suc (suc (suc zero)))) l h = omega arith
row_room (suc (suc (suc (suc (suc zero))))) l h = omega arith
row_room (suc (suc (suc (suc (suc (suc zero)))))) l h = omega arith
row_room (suc (suc (suc (suc (suc (suc (suc zero))))))) l h = omega arith
row_room (suc (suc (suc (suc (suc (suc (suc (suc zero)))))))) l h = omega arith
row_room (suc (suc (suc (suc (suc (suc (suc (suc (suc m))))))))) l h = absurd (omega arith)

rows_room : (n m w : ℕ) → n * m ≤ 16384 → w ≤ 33 * m → n * w ≤ 540672
rows_room n m w h l =
    let a : n * w ≤ n * (33 * m) = mul-le-mul_left n l in
    let b : n * (33 * m) ≡ 33 * (n * m) = ap (λ k. n * k) (mul_comm 33 m) ∙ sym (mul_assoc n m 33) ∙ mul_comm (n * m) 33 in
    omega arith

half : (n m : ℕ) → n * m ≤ 16384 → 2 ≤ m → n ≤ 8192
half n m e l = let k : n * 2 ≤ n * m = mul-le-mul_left n l in omega arith

pub sizes : (v : PlanValues) → plan_refusal v ≡ None → Sizes v
sizes v h =
    let a : Sized v × Grouped v × Permuting v = subst (Answered v) h (answered v) in
    let whole : symbols v * v.bits ≡ coded v = div-mul_cancel _ a.1.even in
    let high = a.0.high in
    let total : symbols v * v.bits ≤ 16384 = omega arith in
    let long : symbols v * (slots v + 8) ≤ 540672 = rows_room (symbols v) v.bits (slots v + 8) total (row_room v.bits a.1.low a.1.high) in
    let a_high = a.2.a_high in
    let b_high = a.2.b_high in
    let wide : 2 ^ v.bits ≤ 2 ^ 8 = pow_mono a.1.high in
    record {
      bytes_low = a.0.low;
      bytes_high = high;
      a_small = omega arith;
      b_small = omega arith;
      bits_high = a.1.high;
      slots_high = wide;
      symbols_high = half (symbols v) v.bits total a.1.low;
      file_high = omega arith;
    }

-- what holds of every plan that was accepted
pub plan_sizes : (p : Plan) → Sizes p.values
plan_sizes p = sizes p.values p.accepted

-- a row begins no later than the rows end
pub row_early : (v : PlanValues) (k : ℕ) → k ≤ symbols v → row_at v k ≤ rows_end v
row_early v k l = let m : k * (slots v + 8) ≤ symbols v * (slots v + 8) = mul-le-mul_right (slots v + 8) l in omega arith
