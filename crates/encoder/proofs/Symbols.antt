-- A symbol's slot, one accumulated bit after another, and a block's slots, one symbol after another.
use Rattle.std.proofs.Common.{◌≡◌, ℕ, suc, ◌+◌, ◌*◌, ◌^◌, ◌<◌, ◌≤◌, Bool, List, [], ◌∷◌, ◌++◌, map, length, take, set, sym, refl, ap, ◌∙◌, subst, le_refl, suc-mul, mul-le-mul, arith, pow_mono, true, false}
use mir.Val.{bool_byte}
use Rattle.std.specs.List.{range_with_len}
use Rattle.std.proofs.lemmas.List.FromFn.{map-range_with_len_more, length-map-range_with_len}
use Rattle.std.proofs.lemmas.List.{take_more_set}
use native.Mathlib.Nat.{div-mul_cancel}
use Rattle.plans.specs.declared.accepted.Plan.{Plan}
use Rattle.plans.specs.Plans.{coded, symbols}
use Rattle.plans.proofs.Answering.{accepted}
use Rattle.polynomial.specs.Polynomials.{bit, value}
use Rattle.polynomial.proofs.Binary.{value_append, value_lt}

-- the number read from n bits that a function gives from place `from` on
abbrev pub read : (ℕ → Bool) → ℕ → ℕ → ℕ
read f from n = value (map f (range_with_len from n))

pub read_more : (f : ℕ → Bool) (from n : ℕ) → read f from (n + 1) ≡ 2 * read f from n + bit (f (from + n))
read_more f from n =
    ap value (map-range_with_len_more f from n (from + n) refl) ∙ value_append (map f (range_with_len from n)) (f (from + n) ∷ []) ∙ last (value (map f (range_with_len from n))) (f (from + n))
  where
    last : (x : ℕ) (b : Bool) → x * 2 + (bit b * 1 + 0) ≡ 2 * x + bit b
    last x b = omega arith

pub read_lt : (f : ℕ → Bool) (from n : ℕ) → read f from n < 2 ^ n
read_lt f from n = subst (λ k. read f from n < 2 ^ k) (length-map-range_with_len f from n) (value_lt (map f (range_with_len from n)))

-- a symbol's number stays below 256
pub read_byte : (f : ℕ → Bool) (from i : ℕ) → i ≤ 8 → read f from i < 256
read_byte f from i h =
    let r = read_lt f from i in
    let p : 2 ^ i ≤ 2 ^ 8 = pow_mono h in
    omega arith

-- a bit as the code adds it
pub bit_byte : (b : Bool) → bool_byte b ≡ bit b
bit_byte true = refl
bit_byte false = refl

pub byte_small : (b : Bool) → bool_byte b ≤ 1
byte_small true = omega arith
byte_small false = omega arith

-- place k of n groups of m
pub inside : (k n m i : ℕ) → k < n → i < m → k * m + i < n * m
inside k n m i l h = let e : suc k * m ≤ n * m = mul-le-mul l (le_refl m) in let z = suc-mul k m in omega arith

-- a buffer whose front is made place by place
pub filled_more : (f : ℕ → ℕ) (out : List ℕ) (k x : ℕ) → k < length out → take k out ≡ map f (range_with_len 0 k) → x ≡ f k → take (k + 1) (set out k x) ≡ map f (range_with_len 0 (k + 1))
filled_more f out k x l h e = take_more_set out k x l ∙ ap (λ xs. xs ++ x ∷ []) h ∙ ap (λ y. map f (range_with_len 0 k) ++ y ∷ []) e ∙ sym (map-range_with_len_more f 0 k k (omega arith))

-- the symbols of an accepted plan take all coded bits, which are few
pub record Whole (p : Plan) : Type 0 where
  pub all : symbols p.values * p.values.bits ≡ coded p.values
  pub few : coded p.values ≤ 16384

pub whole : (p : Plan) → Whole p
whole p =
    let a = accepted p.values p.accepted in
    let high = a.0.high in
    record { all = div-mul_cancel _ a.1.even; few = omega arith }
