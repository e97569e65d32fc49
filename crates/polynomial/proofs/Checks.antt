-- The check of bytes: what it is worth, and how a byte more changes it.
use Rattle.std.proofs.Common.{◌≡◌, ℕ, ◌+◌, ◌*◌, ◌/◌, ◌%◌, ◌^◌, ◌<◌, ◌≤◌, Bool, List, [], ◌∷◌, ◌++◌, length, take, drop, sym, refl, ap, ◌∙◌, subst, arith, length-append, length-drop, length-take}
use lib.Bits.{bit_xor}
use Rattle.std.proofs.lemmas.Nat.{shr_high, mod_low, xor_comm}
use Rattle.std.proofs.lemmas.List.{append-nil, take-append-drop}
use Rattle.polynomial.specs.Polynomials.{zeros, plus, product, generator, remainder, value, Remainder, OneRemainder}
use Rattle.polynomial.specs.Bytes.{digits, bits, check_of, Checks}
use Rattle.polynomial.proofs.Addition.{length_zeros, zeros_append, length_plus, plus_assoc, plus_comm, plus_zeros, plus_self, plus_append}
use Rattle.polynomial.proofs.Division.{one_remainder, length_product}
use Rattle.polynomial.proofs.Linear.{eight_more}
use Rattle.polynomial.proofs.Binary.{value_lt, value_digits, digits_value, value_append, value_plus}
use Rattle.polynomial.proofs.Bitwise.{bits_append}

long : (p : List Bool) → 22 ≤ length (p ++ zeros 22)
long p = omega (arith, length-append p (zeros 22))

-- the one remainder of p(z) z^22
pub one_check : (p : List Bool) → OneRemainder (p ++ zeros 22)
one_check p = one_remainder (p ++ zeros 22) (long p)

pub length_remainder : (p : List Bool) → length (remainder (p ++ zeros 22)) ≡ 22
length_remainder p = (one_check p).found.short

pub check_small : (xs : List ℕ) → check_of xs < 2 ^ 22
unfolding check_of
check_small xs = subst (λ (n : ℕ). value (remainder (bits xs ++ zeros 22)) < 2 ^ n) (length_remainder (bits xs)) (value_lt (remainder (bits xs ++ zeros 22)))

pub digits_check : (xs : List ℕ) → digits 22 (check_of xs) ≡ remainder (bits xs ++ zeros 22)
unfolding check_of
digits_check xs =
    ap (λ (n : ℕ). digits n (value (remainder (bits xs ++ zeros 22)))) (sym (length_remainder (bits xs))) ∙ digits_value (remainder (bits xs ++ zeros 22))

-- a polynomial with its remainder in place of the zeros is a multiple of the generator
pub closed : (p r : List Bool) → Remainder (p ++ zeros 22) r → Remainder (p ++ r) (zeros 22)
closed p r R =
    let n : ℕ = length R.quotient in
    let P : List Bool = product R.quotient generator in
    let Z : List Bool = zeros n ++ r in
    let zn : length (zeros n) ≡ n = length_zeros n in
    let lP : length P ≡ n + 22 = length_product R.quotient in
    let lZ : length Z ≡ n + 22 = length-append (zeros n) r ∙ omega (arith, R.short) in
    let l : length p ≡ n = omega (arith, length-append p (zeros 22), ap length R.whole, length_plus P Z (omega arith)) in
    let left : plus p (zeros n) ≡ p = plus_comm p (zeros n) ∙ plus_zeros n p (omega arith) in
    let right : plus (zeros 22) r ≡ r = plus_zeros 22 r (omega (arith, R.short)) in
    let twice : plus Z Z ≡ zeros n ++ zeros 22 = plus_self Z ∙ ap zeros lZ ∙ sym (zeros_append n 22) in
    record {
      short = refl;
      quotient = R.quotient;
      whole =
          sym
          (ap (plus P) (sym twice)
          ∙ sym (plus_assoc P Z Z)
          ∙ ap (λ (X : List Bool). plus X Z) (sym R.whole)
          ∙ plus_append p (zeros 22) (zeros n) r (l ∙ sym zn)
          ∙ ap (λ (X : List Bool). X ++ plus (zeros 22) r) left
          ∙ ap (λ (X : List Bool). p ++ X) right);
    }

pub checks : (xs : List ℕ) → Checks xs (check_of xs)
checks xs =
    let o = one_check (bits xs) in
    let d = digits_check xs in
    let left : Remainder (bits xs ++ zeros 22) (digits 22 (check_of xs)) = subst (Remainder (bits xs ++ zeros 22)) (sym d) o.found in
    record {
      small = check_small xs;
      left = left;
      only = λ s R. o.only s R ∙ sym d;
      closes = closed (bits xs) (digits 22 (check_of xs)) left;
    }

-- the place in the table: the eight highest digits of the check r, with the new byte x added to them
unfoldable pub leading : ℕ → ℕ → ℕ
leading r x = bit_xor (r / 2 ^ 14) x

module _ (xs : List ℕ) (x : ℕ) (small : x < 256) where
  high : List Bool
  high = take 8 (remainder (bits xs ++ zeros 22))

  low : List Bool
  low = drop 8 (remainder (bits xs ++ zeros 22))

  parts : remainder (bits xs ++ zeros 22) ≡ high ++ low
  unfolding high low
  parts = sym (take-append-drop 8 (remainder (bits xs ++ zeros 22)))

  length_high : length high ≡ 8
  unfolding high
  length_high = length-take 8 (remainder (bits xs ++ zeros 22)) ∙ rw (length_remainder (bits xs)) refl

  length_low : length low ≡ 14
  unfolding low
  length_low = length-drop 8 (remainder (bits xs ++ zeros 22)) ∙ rw (length_remainder (bits xs)) refl

  check_parts : check_of xs ≡ value high * 2 ^ 14 + value low
  unfolding check_of
  check_parts = ap value parts ∙ value_append high low ∙ ap (λ (n : ℕ). value high * 2 ^ n + value low) length_low

  low_lt : value low < 2 ^ 14
  low_lt = subst (λ (n : ℕ). value low < 2 ^ n) length_low (value_lt low)

  value_high : check_of xs / 2 ^ 14 ≡ value high
  value_high = ap (λ (r : ℕ). r / 2 ^ 14) check_parts ∙ shr_high (value high) 14 (value low) low_lt

  value_low : check_of xs % 2 ^ 14 ≡ value low
  value_low = ap (λ (r : ℕ). r % 2 ^ 14) check_parts ∙ mod_low (value high) 14 (value low) low_lt

  sum_eight : length (plus high (digits 8 x)) ≡ 8
  sum_eight = length_plus high (digits 8 x) (omega (arith, length_high))

  value_sum : value (plus high (digits 8 x)) ≡ leading (check_of xs) x
  unfolding leading
  value_sum =
      value_plus high (digits 8 x) length_high
      ∙ ap (λ (r : ℕ). bit_xor r (value (digits 8 x))) (sym value_high)
      ∙ ap (bit_xor (check_of xs / 2 ^ 14)) (value_digits 8 x small)

  bits_sum : plus high (digits 8 x) ≡ bits (leading (check_of xs) x ∷ [])
  bits_sum =
      sym (digits_value (plus high (digits 8 x)))
      ∙ ap (λ (n : ℕ). digits n (value (plus high (digits 8 x)))) sum_eight
      ∙ ap (digits 8) value_sum
      ∙ sym (append-nil (digits 8 (leading (check_of xs) x)))

  more : remainder (bits (xs ++ x ∷ []) ++ zeros 22) ≡ plus (remainder (bits (leading (check_of xs) x ∷ []) ++ zeros 22)) (low ++ zeros 8)
  more =
      ap (λ (X : List Bool). remainder (X ++ zeros 22)) (bits_append xs (x ∷ []) ∙ ap (λ (X : List Bool). bits xs ++ X) (append-nil (digits 8 x)))
      ∙ eight_more (bits xs) (digits 8 x) high low refl length_high length_low parts
      ∙ ap (λ (X : List Bool). plus (remainder (X ++ zeros 22)) (low ++ zeros 8)) bits_sum

  value_shifted : value (low ++ zeros 8) ≡ check_of xs % 2 ^ 14 * 2 ^ 8
  value_shifted = value_append low (zeros 8) ∙ omega (arith, value_low)

  -- the check of bytes with one byte more, from the check of the bytes
  pub check_more : check_of (xs ++ x ∷ []) ≡ bit_xor (check_of xs % 2 ^ 14 * 2 ^ 8) (check_of (leading (check_of xs) x ∷ []))
  unfolding check_of
  check_more =
      ap value more
      ∙ value_plus (remainder (bits (leading (check_of xs) x ∷ []) ++ zeros 22)) (low ++ zeros 8)
      (length_remainder (bits (leading (check_of xs) x ∷ [])) ∙ sym (length-append low (zeros 8) ∙ omega (arith, length_low)))
      ∙ xor_comm (value (remainder (bits (leading (check_of xs) x ∷ []) ++ zeros 22))) (value (low ++ zeros 8))
      ∙ ap (λ (r : ℕ). bit_xor r (value (remainder (bits (leading (check_of xs) x ∷ []) ++ zeros 22)))) value_shifted
