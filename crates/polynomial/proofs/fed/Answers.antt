-- The code's shifts and masks are those of the rule for one byte more.
use Rattle.std.proofs.Common.{◌≡◌, ℕ, ◌*◌, ◌/◌, ◌%◌, ◌^◌, ◌<◌, List, [], ◌∷◌, ◌++◌, sym, refl, ap, ◌∙◌, arith, rules}
use lib.Bits.{bit_and, bit_xor}
use Rattle.std.proofs.lemmas.Nat.{and_mask, mod_below}
use Rattle.polynomial.specs.Polynomials.{remainder}
use Rattle.polynomial.specs.Bytes.{check_of}
use Rattle.polynomial.proofs.Checks.{leading, check_more}
use Rattle.polynomial.proofs.Listed.{listed}
use Rattle.polynomial.proofs.fed.Goals as goal

shifted : (r : ℕ) → (bit_and r 16383 * 256) % 2 ^ 32 ≡ r % 2 ^ 14 * 2 ^ 8
shifted r = let m : bit_and r 16383 ≡ r % 2 ^ 14 = and_mask r 14 in let b = mod_below r (2 ^ 14) (omega arith) in rw m (omega arith)

more : (r byte s : ℕ) → byte < 256 → s ≡ check_of (bit_xor (r / 2 ^ 14) byte ∷ []) → (xs : List ℕ) → r ≡ check_of xs → bit_xor ((bit_and r 16383 * 256) % 2 ^ 32) s ≡ check_of (xs ++ byte ∷ [])
unfolding leading
more r byte s small e xs h =
    ap (λ (n : ℕ). bit_xor n s) (shifted r)
    ∙ ap (bit_xor (r % 2 ^ 14 * 2 ^ 8)) e
    ∙ ap (λ (n : ℕ). bit_xor (n % 2 ^ 14 * 2 ^ 8) (check_of (leading n byte ∷ []))) h
    ∙ sym (check_more xs byte small)

pub returns : goal.returns
returns c = more c.args.r c.args.byte c.alone.result (search rules) c.alone.ensures

-- the table's rule: one test, computed at each of its 256 entries
pub alone-requires : goal.alone-requires
unfolding check_of remainder
alone-requires c = listed _ refl refl
