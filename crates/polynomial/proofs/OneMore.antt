-- The remainder of a polynomial with one coefficient more.
use Rattle.std.proofs.Common.{◌≡◌, ℕ, ◌+◌, ◌-◌, ◌*◌, ◌^◌, ◌<◌, ◌≤◌, Bool, true, false, cond, ltb, List, [], ◌∷◌, ◌++◌, length, sym, ap, ◌∙◌, subst, ⊎_elim, arith, length-append}
use native.Mathlib.Nat.{pow-le-pow_right}
use lib.Bits.{bit_xor, xor_block, xor_lt}
use mir.Val.{bool_byte}
use Rattle.std.proofs.lemmas.Nat.{xor_comm}
use Rattle.std.proofs.lemmas.Bool.{cases_lt, cond-true, cond-false, lt-ltb, le-ltb}
use Rattle.polynomial.specs.Polynomials.{zeros, plus, generator_rest, divide, remainder, value, bit}
use Rattle.polynomial.proofs.Division.{length_divide}
use Rattle.polynomial.proofs.Linear.{divide_split, divide_append}
use Rattle.polynomial.proofs.Binary.{value_lt, value_append, value_plus}

-- twice a value and a coefficient
pub doubled : (p : List Bool) (b : Bool) → value (p ++ b ∷ []) ≡ 2 * value p + bit b
doubled p b = value_append p (b ∷ []) ∙ omega arith

pub bit_low : (b : Bool) → bit b ≤ 1
bit_low true = omega arith
bit_low false = omega arith

-- what is left of twice a remainder and a coefficient
unfoldable pub reduced : ℕ → ℕ
reduced x = cond (ltb x 4194304) x (bit_xor x 4194361)

pub reduced_low : (x : ℕ) → x < 4194304 → reduced x ≡ x
unfolding reduced
reduced_low x h = cond-true (ltb x 4194304) x (bit_xor x 4194361) (lt-ltb x 4194304 h)

pub reduced_high : (x : ℕ) → 4194304 ≤ x → reduced x ≡ bit_xor x 4194361
unfolding reduced
reduced_high x h = cond-false (ltb x 4194304) x (bit_xor x 4194361) (le-ltb x 4194304 h)

-- a leading one and the generator's go out against each other
over : (y : ℕ) → y < 2 ^ 22 → bit_xor 57 y ≡ reduced (1 * 2 ^ 22 + y)
over y h =
    let b = xor_block 22 1 1 y 57 h (omega arith) in
    xor_comm 57 y ∙ sym (reduced_high (1 * 2 ^ 22 + y) (omega arith) ∙ b ∙ omega arith)

-- one step of division of 22 coefficients and one more
stepped : (R : List Bool) (b : Bool) → length R ≡ 22 → value (divide 1 (R ++ b ∷ [])) ≡ reduced (2 * value R + bit b)
stepped [] b e = absurd (omega arith)
stepped (true ∷ R) b e =
    let l : length (R ++ b ∷ []) ≡ 22 = length-append R (b ∷ []) ∙ omega arith in
    let v = doubled R b in
    let low : value (R ++ b ∷ []) < 2 ^ 22 = subst (λ (n : ℕ). value (R ++ b ∷ []) < 2 ^ n) l (value_lt (R ++ b ∷ [])) in
    let r : length R ≡ 21 = omega arith in
    let big : 2 * (1 * 2 ^ length R + value R) + bit b ≡ 1 * 2 ^ 22 + value (R ++ b ∷ []) = ap (λ (n : ℕ). 2 * (1 * 2 ^ n + value R) + bit b) r ∙ omega arith in
    ap (λ (n : ℕ). value (plus (generator_rest ++ zeros (n - 22)) (R ++ b ∷ []))) l
    ∙ value_plus generator_rest (R ++ b ∷ []) (sym l)
    ∙ over (value (R ++ b ∷ [])) low
    ∙ ap reduced (sym big)
stepped (false ∷ R) b e =
    let r : length R ≡ 21 = omega arith in
    let small : value R < 2 ^ 21 = subst (λ (n : ℕ). value R < 2 ^ n) r (value_lt R) in
    let one = bit_low b in
    let z : 2 * (0 * 2 ^ length R + value R) + bit b ≡ 2 * value R + bit b = omega arith in
    doubled R b ∙ sym (ap reduced z ∙ reduced_low (2 * value R + bit b) (omega arith))

-- of fewer than 22 coefficients nothing is taken off
kept : (p : List Bool) → length p ≤ 22 → remainder p ≡ p
unfolding remainder
kept p h = let z : length p - 22 ≡ 0 = omega arith in ap (λ (n : ℕ). divide n p) z

short : (p : List Bool) (b : Bool) → length p < 22 → value (remainder (p ++ b ∷ [])) ≡ reduced (2 * value (remainder p) + bit b)
short p b h =
    let l = length-append p (b ∷ []) in
    let one = bit_low b in
    let small : value p < 2 ^ length p = value_lt p in
    let power : 2 ^ length p ≤ 2 ^ 21 = pow-le-pow_right {n = 2} (omega arith) {i = length p} {j = 21} (omega arith) in
    ap value (kept (p ++ b ∷ []) (omega arith))
    ∙ doubled p b
    ∙ sym (ap (λ (q : List Bool). reduced (2 * value q + bit b)) (kept p (omega arith)) ∙ reduced_low (2 * value p + bit b) (omega arith))

long : (p : List Bool) (b : Bool) → 22 ≤ length p → value (remainder (p ++ b ∷ [])) ≡ reduced (2 * value (remainder p) + bit b)
unfolding remainder
long p b h =
    let n = length p - 22 in
    let l : length p ≡ n + 22 = omega arith in
    let k : length (p ++ b ∷ []) - 22 ≡ n + 1 = ap (λ (i : ℕ). i - 22) (length-append p (b ∷ [])) ∙ omega arith in
    ap (λ (i : ℕ). value (divide i (p ++ b ∷ []))) k
    ∙ ap value (divide_split n 1 (p ++ b ∷ []) ∙ ap (divide 1) (divide_append n p (b ∷ []) l))
    ∙ stepped (divide n p) b (length_divide n p l)

pub one_more : (p : List Bool) (b : Bool) → value (remainder (p ++ b ∷ [])) ≡ reduced (2 * value (remainder p) + bit b)
one_more p b = ⊎_elim (short p b) (long p b) (cases_lt (length p) 22)

-- it has 22 digits again
pub high_small : (x : ℕ) → 4194304 ≤ x → x < 2 ^ 23 → bit_xor x 4194361 < 2 ^ 22
high_small x low high =
    let y = x - 4194304 in
    let e : x ≡ 1 * 2 ^ 22 + y = omega arith in
    let b = xor_block 22 1 1 y 57 (omega arith) (omega arith) in
    let s : bit_xor y 57 < 2 ^ 22 = xor_lt 22 y 57 (omega arith) (omega arith) in
    let t : bit_xor x 4194361 ≡ bit_xor y 57 = ap (λ (n : ℕ). bit_xor n 4194361) e ∙ b ∙ omega arith in
    omega arith

-- one coefficient more, from the remainder as a number
pub fed_one : (p : List Bool) (b : Bool) (r x : ℕ) → x ≡ bit b → r ≡ value (remainder p) → reduced (2 * r + x) ≡ value (remainder (p ++ b ∷ []))
fed_one p b r x f e = ap (λ (n : ℕ). reduced (2 * r + n)) f ∙ ap (λ (n : ℕ). reduced (2 * n + bit b)) e ∙ sym (one_more p b)

pub bit_of : (b : Bool) (x : ℕ) → x ≡ bool_byte b → x ≡ bit b
bit_of true x e = e
bit_of false x e = e
