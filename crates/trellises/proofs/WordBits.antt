-- The bits of a word, and of the word with one more bit above them.
use Rattle.std.proofs.Common.{◌≡◌, ℕ, suc, ◌+◌, ◌-◌, ◌*◌, ◌/◌, ◌%◌, ◌^◌, ◌<◌, sym, ap, ◌∙◌, arith}
use native.Mathlib.Nat.{pow-succ', div-eq_of_lt, mul-add-div}
use Rattle.std.proofs.lemmas.Nat.{pow_pos, pow-add, div-mul-add}
use Rattle.trellises.specs.Priors.{bit}

-- beyond a word's bits there is zero
pub bit_low : (w j : ℕ) → w < 2 ^ j → bit w j ≡ 0
bit_low w j h = ap (λ x. x % 2) (div-eq_of_lt {n = w} {m = 2 ^ j} h)

-- the bit set above a word
pub bit_high : (w j : ℕ) → w < 2 ^ j → bit (2 ^ j + w) j ≡ 1
bit_high w j h =
    let e : 1 * 2 ^ j ≡ 2 ^ j = omega arith in
    ap (λ x. (x + w) / 2 ^ j % 2) (sym e) ∙ ap (λ x. x % 2) (div-mul-add 1 (2 ^ j) w h)

bit_under : (w i d : ℕ) → bit (2 ^ (i + suc d) + w) i ≡ bit w i
bit_under w i d =
    let e : 2 ^ (i + suc d) ≡ 2 ^ i * (2 * 2 ^ d) = pow-add 2 i (suc d) ∙ ap (λ x. 2 ^ i * x) (pow-succ' 2 d) in
    let f = mul-add-div {m = 2 ^ i} (pow_pos i) (2 * 2 ^ d) w in
    ap (λ x. (x + w) / 2 ^ i % 2) e ∙ ap (λ x. x % 2) f ∙ omega arith

-- the bits under it stay
pub bit_kept : (w j i : ℕ) → i < j → bit (2 ^ j + w) i ≡ bit w i
bit_kept w j i h =
    let d = j - suc i in
    let e : i + suc d ≡ j = omega arith in
    ap (λ x. bit (2 ^ x + w) i) (sym e) ∙ bit_under w i d
