-- Bytes as coefficients, and the check of a string of bytes.
use Rattle.std.specs.Prelude.{◌≡◌, ℕ, zero, suc, ◌/◌, ◌%◌, ◌^◌, ◌<◌, Bool, List, [], ◌∷◌, ◌++◌, ◌==◌, slice_index}
use Rattle.polynomial.specs.Polynomials.{zeros, remainder, value, Remainder}

-- the lowest n binary digits of a number, the highest first
abbrev pub digits : ℕ → ℕ → List Bool
digits zero x = []
digits (suc n) x = (x / 2 ^ n % 2 == 1) ∷ digits n x

-- bytes in their order, the most significant bit of each first
abbrev pub bits : List ℕ → List Bool
bits [] = []
bits (x ∷ xs) = digits 8 x ++ bits xs

-- the check of bytes: the remainder of their polynomial times z^22, as a number of 22 binary digits
unfoldable pub check_of : List ℕ → ℕ
check_of xs = value (remainder (bits xs ++ zeros 22))

-- a table of the checks of single bytes
pub record ListsChecks (table : List ℕ) : Type 0 where
  pub entry : (byte : ℕ) → byte < 256 → slice_index table byte ≡ check_of (byte ∷ [])

-- what a check is worth: it is the one remainder, and bytes followed by their check leave nothing
pub record Checks (xs : List ℕ) (r : ℕ) : Type 0 where
  pub small : r < 2 ^ 22
  pub left : Remainder (bits xs ++ zeros 22) (digits 22 r)
  pub only : (s : List Bool) → Remainder (bits xs ++ zeros 22) s → s ≡ digits 22 r
  pub closes : Remainder (bits xs ++ digits 22 r) (zeros 22)
