-- Polynomials over the two-element field, as lists of coefficients, the highest power first.
use Rattle.std.specs.Prelude.{◌≡◌, ℕ, zero, suc, ◌+◌, ◌-◌, ◌*◌, ◌^◌, ◌≤◌, Bool, true, false, cond, List, [], ◌∷◌, ◌++◌, length}

-- the sum of two elements of the field, which is also their difference
abbrev pub xor : Bool → Bool → Bool
xor true true = false
xor true false = true
xor false y = y

abbrev pub zeros : ℕ → List Bool
zeros zero = []
zeros (suc n) = false ∷ zeros n

-- the sum of two polynomials that are written with equally many coefficients
abbrev pub plus : List Bool → List Bool → List Bool
plus [] ys = ys
plus (x ∷ xs) [] = x ∷ xs
plus (x ∷ xs) (y ∷ ys) = xor x y ∷ plus xs ys

abbrev pub scaled : Bool → List Bool → List Bool
scaled b g = cond b g (zeros (length g))

-- the product: n coefficients times k + 1 coefficients, written with n + k
abbrev pub product : List Bool → List Bool → List Bool
product [] g = zeros (length g - 1)
product (b ∷ q) g = plus (scaled b g ++ zeros (length q)) (false ∷ product q g)

-- z^22 + z^5 + z^4 + z^3 + 1 without its highest term
abbrev pub generator_rest : List Bool
generator_rest = false ∷ false ∷ false ∷ false ∷ false ∷ false ∷ false ∷ false ∷ false ∷ false ∷ false ∷ false ∷ false ∷ false ∷ false ∷ false ∷ true ∷ true ∷ true ∷ false ∷ false ∷ true ∷ []

-- z^22 + z^5 + z^4 + z^3 + 1
abbrev pub generator : List Bool
generator = true ∷ generator_rest

-- r is what is left of p after division by the generator: p = quotient * generator + r, and r has 22 coefficients
pub record Remainder (p r : List Bool) : Type 0 where
  pub short : length r ≡ 22
  pub quotient : List Bool
  pub whole : p ≡ plus (product quotient generator) (zeros (length quotient) ++ r)

-- n steps of long division by the generator: a leading one is taken off together with the generator under it
abbrev pub divide : ℕ → List Bool → List Bool
divide zero p = p
divide (suc n) [] = []
divide (suc n) (true ∷ p) = divide n (plus (generator_rest ++ zeros (length p - 22)) p)
divide (suc n) (false ∷ p) = divide n p

-- the remainder by long division
unfoldable pub remainder : List Bool → List Bool
remainder p = divide (length p - 22) p

-- a polynomial's remainder exists, and there is one only
pub record OneRemainder (p : List Bool) : Type 0 where
  pub found : Remainder p (remainder p)
  pub only : (r : List Bool) → Remainder p r → r ≡ remainder p

-- the theorem of division by the generator
abbrev pub Division : Type 0
Division = (p : List Bool) → 22 ≤ length p → OneRemainder p

abbrev pub bit : Bool → ℕ
bit true = 1
bit false = 0

-- coefficients read as the binary digits of a number, the highest first
abbrev pub value : List Bool → ℕ
value [] = 0
value (b ∷ bs) = bit b * 2 ^ length bs + value bs
