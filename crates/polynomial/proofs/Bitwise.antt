-- The bits of bytes: how many there are, which stands where, and that they tell bytes apart.
use Rattle.std.proofs.Common.{◌≡◌, ℕ, suc, ◌-◌, ◌*◌, ◌/◌, ◌%◌, ◌^◌, ◌<◌, Bool, false, eqb, List, [], ◌∷◌, ◌++◌, length, get_or, take, drop, sym, refl, ap, ◌∙◌, inl, inr, arith, length-append}
use Rattle.std.proofs.lemmas.List.{append_assoc, get_or_append_left, get_or-append_right}
use Rattle.std.proofs.lemmas.Bool.{cases_lt}
use Rattle.polynomial.specs.Polynomials.{value}
use Rattle.polynomial.specs.Bytes.{digits, bits}
use Rattle.polynomial.proofs.Binary.{length_digits, value_digits, getD_digits}

pub length_bits : (xs : List ℕ) → length (bits xs) ≡ 8 * length xs
length_bits [] = refl
length_bits (x ∷ xs) = length-append (digits 8 x) (bits xs) ∙ omega (arith, length_bits xs)

pub bits_append : (xs ys : List ℕ) → bits (xs ++ ys) ≡ bits xs ++ bits ys
bits_append [] ys = refl
bits_append (x ∷ xs) ys = ap (λ (B : List Bool). digits 8 x ++ B) (bits_append xs ys) ∙ sym (append_assoc (digits 8 x) (bits xs) (bits ys))

-- the bit in question, of the byte y
asked : ℕ → ℕ → Bool
asked y k = eqb (y / 2 ^ (7 - k % 8) % 2) 1

first : (x : ℕ) (xs : List ℕ) (k : ℕ) → k < 8 → get_or (bits (x ∷ xs)) k false ≡ asked (get_or (x ∷ xs) (k / 8) 0) k
unfolding asked
first x xs k h =
    let z : k / 8 ≡ 0 = omega arith in
    let m : 7 - k % 8 ≡ 8 - 1 - k = omega arith in
    get_or_append_left (digits 8 x) (bits xs) false k h
    ∙ getD_digits 8 x k h
    ∙ ap (λ (j : ℕ). eqb (x / 2 ^ j % 2) 1) (sym m)
    ∙ ap (λ (j : ℕ). asked (get_or (x ∷ xs) j 0) k) (sym z)

pub get_d_bits : (xs : List ℕ) (k : ℕ) → k < 8 * length xs → get_or (bits xs) k false ≡ eqb (get_or xs (k / 8) 0 / 2 ^ (7 - k % 8) % 2) 1
unfolding asked
get_d_bits [] k h = absurd (omega arith)
get_d_bits (x ∷ xs) k h =
    elim (cases_lt k 8) [
      | inl l ↦ first x xs k l
      | inr g ↦
          let z : k / 8 ≡ suc ((k - 8) / 8) = omega arith in
          let m : (k - 8) % 8 ≡ k % 8 = omega arith in
          get_or-append_right (digits 8 x) (bits xs) 8 k false (length_digits 8 x) g
          ∙ get_d_bits xs (k - 8) (omega arith)
          ∙ ap (λ (j : ℕ). eqb (get_or xs ((k - 8) / 8) 0 / 2 ^ (7 - j) % 2) 1) m
          ∙ ap (λ (j : ℕ). asked (get_or (x ∷ xs) j 0) k) (sym z)
    ]

pub bits_apart : (xs ys : List ℕ) → ((k : ℕ) → get_or xs k 0 < 256) → ((k : ℕ) → get_or ys k 0 < 256) → length xs ≡ length ys → bits xs ≡ bits ys → xs ≡ ys
bits_apart [] [] f g l e = refl
bits_apart [] (y ∷ ys) f g l e = absurd (omega arith)
bits_apart (x ∷ xs) [] f g l e = absurd (omega arith)
bits_apart (x ∷ xs) (y ∷ ys) f g l e =
    let d : digits 8 x ≡ digits 8 y = ap (take 8) e in
    let h : x ≡ y = sym (value_digits 8 x (f 0)) ∙ ap value d ∙ value_digits 8 y (g 0) in
    let t : xs ≡ ys = bits_apart xs ys (λ k. f (suc k)) (λ k. g (suc k)) (omega arith) (ap (drop 8) e) in
    cc
