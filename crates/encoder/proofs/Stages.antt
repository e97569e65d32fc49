-- The data bit of each stage, where it lies in the payload or in its check.
use Rattle.std.proofs.Common.{◌≡◌, ℕ, zero, suc, ◌+◌, ◌-◌, ◌*◌, ◌/◌, ◌%◌, ◌^◌, ◌<◌, ◌≤◌, Bool, true, false, not, eqb, List, ◌++◌, length, get_or, sym, refl, ap, ◌∙◌, arith}
use mathlib.Core.Bool.{beq}
use Rattle.std.proofs.lemmas.List.{get_or_append_left, get_or-append_right}
use Rattle.polynomial.specs.Polynomials.{xor, zeros, remainder}
use Rattle.polynomial.specs.Bytes.{bits, check_of}
use Rattle.polynomial.proofs.Binary.{getD_digits}
use Rattle.polynomial.proofs.Bitwise.{length_bits, get_d_bits}
use Rattle.polynomial.proofs.Checks.{digits_check, length_remainder}
use Rattle.encoder.specs.Encoding.{data_bits}

-- `!=` on bits is the sum of the field
pub differs : (x y : Bool) → not (beq x y) ≡ xor x y
differs true true = refl
differs true false = refl
differs false true = refl
differs false false = refl

pub payload_bit : (x : List ℕ) (k : ℕ) → k < 8 * length x → get_or (data_bits x) k false ≡ eqb (get_or x (k / 8) 0 / 2 ^ (7 - k % 8) % 2) 1
unfolding data_bits
payload_bit x k l = get_or_append_left (bits x) (remainder (bits x ++ zeros 22) ++ zeros 2) false k (rw (length_bits x) l) ∙ get_d_bits x k l

behind : (x : List ℕ) (k : ℕ) → 8 * length x ≤ k → get_or (data_bits x) k false ≡ get_or (remainder (bits x ++ zeros 22) ++ zeros 2) (k - 8 * length x) false
unfolding data_bits
behind x k l = get_or-append_right (bits x) (remainder (bits x ++ zeros 22) ++ zeros 2) (8 * length x) k false (length_bits x) l

pub check_bit : (x : List ℕ) (k : ℕ) → 8 * length x ≤ k → k < 8 * length x + 22 → get_or (data_bits x) k false ≡ eqb (check_of x / 2 ^ (8 * length x + 21 - k) % 2) 1
check_bit x k l h =
    let i = k - 8 * length x in
    let low : i < 22 = omega arith in
    let e : 22 - 1 - i ≡ 8 * length x + 21 - k = omega arith in
    behind x k l ∙ get_or_append_left (remainder (bits x ++ zeros 22)) (zeros 2) false i (rw (length_remainder (bits x)) low)
    ∙ ap (λ (xs : List Bool). get_or xs i false) (sym (digits_check x)) ∙ getD_digits 22 (check_of x) i low ∙ ap (λ n. eqb (check_of x / 2 ^ n % 2) 1) e

all_zeros : (n i : ℕ) → get_or (zeros n) i false ≡ false
all_zeros zero i = refl
all_zeros (suc n) zero = refl
all_zeros (suc n) (suc i) = all_zeros n i

pub closing_bit : (x : List ℕ) (k : ℕ) → 8 * length x + 22 ≤ k → get_or (data_bits x) k false ≡ false
closing_bit x k h =
    behind x k (omega arith) ∙ get_or-append_right (remainder (bits x ++ zeros 22)) (zeros 2) 22 (k - 8 * length x) false (length_remainder (bits x)) (omega arith)
    ∙ all_zeros 2 (k - 8 * length x - 22)
