-- Numbers and their binary digits, the highest first.
use Rattle.std.proofs.Common.{◌≡◌, ℕ, zero, suc, ◌+◌, ◌-◌, ◌*◌, ◌/◌, ◌%◌, ◌^◌, ◌<◌, Bool, true, false, eqb, List, [], ◌∷◌, ◌++◌, length, get_or, sym, refl, ap, ◌∙◌, mod-eq_of_lt, add-mul, pow-suc, one-add, arith, length-append, pow-add}
use lib.Bits.{bit_xor, xor_block}
use Rattle.std.proofs.lemmas.Nat.{mod-pow-add, mod_below, shr_high}
use Rattle.polynomial.specs.Polynomials.{xor, zeros, plus, bit, value}
use Rattle.polynomial.specs.Bytes.{digits}
use Rattle.polynomial.proofs.Addition.{length_plus}

pub length_digits : (n x : ℕ) → length (digits n x) ≡ n
length_digits zero x = refl
length_digits (suc n) x = ap suc (length_digits n x)

pub value_lt : (bs : List Bool) → value bs < 2 ^ length bs
value_lt [] = omega arith
value_lt (true ∷ bs) = let h = value_lt bs in rw pow-suc (omega arith)
value_lt (false ∷ bs) = let h = value_lt bs in rw pow-suc (omega arith)

-- a digit as a number
bit_of : (y : ℕ) → y < 2 → bit (eqb y 1) ≡ y
bit_of zero h = refl
bit_of (suc zero) h = refl
bit_of (suc (suc y)) h = absurd (omega arith)

digit_of : (b : Bool) → eqb (bit b) 1 ≡ b
digit_of true = refl
digit_of false = refl

last : (h : ℕ) (b : Bool) → (h * 2 + bit b) % 2 ≡ bit b
last h true = omega arith
last h false = omega arith

pub value_of_digits : (n x : ℕ) → value (digits n x) ≡ x % 2 ^ n
value_of_digits zero x = omega arith
value_of_digits (suc n) x =
    ap (λ (m : ℕ). bit (eqb (x / 2 ^ n % 2) 1) * 2 ^ m + value (digits n x)) (length_digits n x)
    ∙ ap (λ (b : ℕ). b * 2 ^ n + value (digits n x)) (bit_of (x / 2 ^ n % 2) (mod_below (x / 2 ^ n) 2 (omega arith)))
    ∙ ap (λ (v : ℕ). x / 2 ^ n % 2 * 2 ^ n + v) (value_of_digits n x)
    ∙ sym (mod-pow-add x 1 n)
    ∙ ap (λ (m : ℕ). x % 2 ^ m) (one-add n)

pub value_digits : (n x : ℕ) → x < 2 ^ n → value (digits n x) ≡ x
value_digits n x h = value_of_digits n x ∙ mod-eq_of_lt h

-- a number with the digits bs has those lowest digits, whatever h stands above them
low_digits : (bs : List Bool) (h : ℕ) → digits (length bs) (h * 2 ^ length bs + value bs) ≡ bs
low_digits [] h = refl
low_digits (b ∷ bs) h =
    let k : h * 2 ^ suc (length bs) + (bit b * 2 ^ length bs + value bs) ≡ (h * 2 + bit b) * 2 ^ length bs + value bs = rw (pow-suc, add-mul) (omega arith) in
    let d : (h * 2 ^ suc (length bs) + (bit b * 2 ^ length bs + value bs)) / 2 ^ length bs ≡ h * 2 + bit b = ap (λ (x : ℕ). x / 2 ^ length bs) k ∙ shr_high (h * 2 + bit b) (length bs) (value bs) (value_lt bs) in
    let o : (h * 2 + bit b) % 2 ≡ bit b = last h b in
    let e : eqb ((h * 2 ^ suc (length bs) + (bit b * 2 ^ length bs + value bs)) / 2 ^ length bs % 2) 1 ≡ b = ap (λ (x : ℕ). eqb (x % 2) 1) d ∙ ap (λ (x : ℕ). eqb x 1) o ∙ digit_of b in
    let r : digits (length bs) (h * 2 ^ suc (length bs) + (bit b * 2 ^ length bs + value bs)) ≡ bs = ap (digits (length bs)) k ∙ low_digits bs (h * 2 + bit b) in
    cc

pub digits_value : (bs : List Bool) → digits (length bs) (value bs) ≡ bs
digits_value bs = let z : 0 * 2 ^ length bs + value bs ≡ value bs = omega arith in ap (digits (length bs)) (sym z) ∙ low_digits bs 0

pub getD_digits : (n x i : ℕ) → i < n → get_or (digits n x) i false ≡ eqb (x / 2 ^ (n - 1 - i) % 2) 1
getD_digits zero x i h = absurd (omega arith)
getD_digits (suc n) x zero h = let k : suc n - 1 - 0 ≡ n = omega arith in ap (λ (m : ℕ). eqb (x / 2 ^ m % 2) 1) (sym k)
getD_digits (suc n) x (suc i) h =
    let k : suc n - 1 - suc i ≡ n - 1 - i = omega arith in
    getD_digits n x i (omega arith) ∙ ap (λ (m : ℕ). eqb (x / 2 ^ m % 2) 1) (sym k)

pub value_append : (A B : List Bool) → value (A ++ B) ≡ value A * 2 ^ length B + value B
value_append [] B = omega arith
value_append (true ∷ A) B = let h = value_append A B in rw (length-append A B, h, pow-add) (omega arith)
value_append (false ∷ A) B = let h = value_append A B in rw h (omega arith)

pub value_zeros : (n : ℕ) → value (zeros n) ≡ 0
value_zeros zero = refl
value_zeros (suc n) = rw (value_zeros n) (omega arith)

bit-xor : (a b : Bool) → bit (xor a b) ≡ bit_xor (bit a) (bit b)
bit-xor true true = refl
bit-xor true false = refl
bit-xor false true = refl
bit-xor false false = refl

-- to add polynomials is to add their digits without carry
pub value_plus : (A B : List Bool) → length A ≡ length B → value (plus A B) ≡ bit_xor (value A) (value B)
value_plus [] [] e = refl
value_plus [] (b ∷ B) e = absurd (omega arith)
value_plus (a ∷ A) [] e = absurd (omega arith)
value_plus (a ∷ A) (b ∷ B) e =
    let l : length A ≡ length B = omega arith in
    let h : value B < 2 ^ length A = rw l (value_lt B) in
    rw (length_plus A B (omega arith), bit-xor a b, value_plus A B l, ← l) (sym (xor_block (length A) (bit a) (bit b) (value A) (value B) (value_lt A) h))
