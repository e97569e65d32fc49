-- The lowest bits of a word, by halves.
use Rattle.std.proofs.Common.{◌≡◌, ℕ, suc, ◌+◌, ◌*◌, ◌/◌, ◌%◌, ◌^◌, ◌<◌, true, ◌&&◌, ◌||◌, eqb, ltb, leb, sym, ap, ◌∙◌, one-mul, zero-mul, one-add, arith}
use Rattle.std.proofs.lemmas.Nat.{pow_pos, mod-pow-add, mod_below}
use Rattle.std.proofs.lemmas.Bool.Decides.{nat_tests}

-- a word's lowest b + 1 bits are its lowest b bits, and 2 ^ b more where bit b is 1
record Split (b w : ℕ) : Type 0 where
  pub low : w % 2 ^ b < 2 ^ b
  pub bit : w / 2 ^ b % 2 < 2
  pub clear : w / 2 ^ b % 2 ≡ 0 → w % 2 ^ suc b ≡ w % 2 ^ b
  pub there : w / 2 ^ b % 2 ≡ 1 → w % 2 ^ suc b ≡ 2 ^ b + w % 2 ^ b

split : (b w : ℕ) → Split b w
split b w =
    let at : w % 2 ^ suc b ≡ (w / 2 ^ b % 2) * 2 ^ b + w % 2 ^ b = ap (λ n. w % 2 ^ n) (sym (one-add b)) ∙ mod-pow-add w 1 b in
    record {
      low = mod_below w (2 ^ b) (pow_pos b);
      bit = mod_below (w / 2 ^ b) 2 (omega arith);
      clear = λ e. at ∙ ap (λ q. q * 2 ^ b + w % 2 ^ b) e ∙ omega (arith, zero-mul (2 ^ b));
      there = λ e. at ∙ ap (λ q. q * 2 ^ b + w % 2 ^ b) e ∙ omega (arith, one-mul (2 ^ b));
    }

-- the lowest b bits of a word are x where its lowest b + 1 bits are x, or 2 ^ b + x, and never both
pub either_half : (b w x : ℕ) → x < 2 ^ b → eqb (w % 2 ^ b) x ≡ (eqb (w % 2 ^ suc b) x || eqb (w % 2 ^ suc b) (2 ^ b + x))
either_half b w x h = let s = split b w in grind (arith, nat_tests)

pub apart_halves : (b w x : ℕ) → eqb (w % 2 ^ suc b) x ≡ true → eqb (w % 2 ^ suc b) (2 ^ b + x) ≡ true → ⊥
apart_halves b w x p q = let z = pow_pos b in grind (arith, nat_tests)

-- the lower half of the lowest b + 1 bits has bit b 0, and the upper half has it 1
pub lower_half : (b w : ℕ) → ltb (w % 2 ^ suc b) (2 ^ b) ≡ eqb (w / 2 ^ b % 2) 0
lower_half b w = let s = split b w in grind (arith, nat_tests)

pub upper_half : (b w : ℕ) → (leb (2 ^ b) (w % 2 ^ suc b) && ltb (w % 2 ^ suc b) (2 ^ b + 2 ^ b)) ≡ eqb (w / 2 ^ b % 2) 1
upper_half b w = let s = split b w in grind (arith, nat_tests)
