-- Division by the generator: the remainder exists, and there is one only.
use Rattle.std.proofs.Common.{◌≡◌, ℕ, zero, suc, ◌+◌, ◌-◌, ◌≤◌, Bool, true, false, List, [], ◌∷◌, ◌++◌, length, sym, refl, ap, ◌∙◌, arith, length-append}
use Rattle.polynomial.specs.Polynomials.{zeros, plus, product, generator_rest, generator, divide, remainder, OneRemainder}
use Rattle.polynomial.proofs.Addition.{length_zeros, plus_assoc, plus_zeros, plus_twice, length_plus, zeros_append}

-- the generator without its highest term, with n zeros behind it
unfoldable pub under : ℕ → List Bool
under n = generator_rest ++ zeros n

pub length_under : (n : ℕ) → length (under n) ≡ n + 22
unfolding under
length_under n = length-append generator_rest (zeros n) ∙ rw length_zeros (omega arith)

-- the product with one coefficient more in front
product_one : (q : List Bool) → product (true ∷ q) generator ≡ true ∷ plus (under (length q)) (product q generator)
unfolding under
product_one q = refl

nothing : (n : ℕ) (X : List Bool) → n + 22 ≤ length X → plus (zeros 22 ++ zeros n) X ≡ X
nothing n X h = ap (λ (Z : List Bool). plus Z X) (zeros_append 22 n) ∙ plus_zeros (22 + n) X (omega arith)

product_zero : (q : List Bool) → length (product q generator) ≡ length q + 22 → product (false ∷ q) generator ≡ false ∷ product q generator
product_zero q e = ap (λ (X : List Bool). false ∷ X) (nothing (length q) (product q generator) (omega arith))

pub length_product : (q : List Bool) → length (product q generator) ≡ length q + 22
length_product [] = refl
length_product (true ∷ q) =
    let u = length_under (length q) in
    let p = length_product q in
    ap length (product_one q) ∙ ap suc (length_plus (under (length q)) (product q generator) (omega arith) ∙ p) ∙ omega arith
length_product (false ∷ q) = let p = length_product q in ap length (product_zero q p) ∙ ap suc p ∙ omega arith

-- a step of long division at a leading one
pub divide_one : (n m : ℕ) (p : List Bool) → length p ≡ m + 22 → divide (suc n) (true ∷ p) ≡ divide n (plus (under m) p)
unfolding under
divide_one n m p e = let k : length p - 22 ≡ m = omega arith in ap (λ (j : ℕ). divide n (plus (generator_rest ++ zeros j) p)) k

pub length_step : (n : ℕ) (p : List Bool) → length p ≡ n + 22 → length (plus (under n) p) ≡ n + 22
length_step n p e = let u = length_under n in length_plus (under n) p (omega arith) ∙ e

pub length_divide : (n : ℕ) (p : List Bool) → length p ≡ n + 22 → length (divide n p) ≡ 22
length_divide zero p e = e ∙ omega arith
length_divide (suc n) [] e = absurd (omega arith)
length_divide (suc n) (true ∷ p) e =
    let l : length p ≡ n + 22 = omega arith in
    ap length (divide_one n n p l) ∙ length_divide n (plus (under n) p) (length_step n p l)
length_divide (suc n) (false ∷ p) e = length_divide n p (omega arith)

-- what is divided by the generator into the quotient q with the remainder r
pub whole_of : List Bool → List Bool → List Bool
whole_of q r = plus (product q generator) (zeros (length q) ++ r)

length_whole : (q r : List Bool) → length r ≡ 22 → length (whole_of q r) ≡ length q + 22
unfolding whole_of
length_whole q r e =
    let p = length_product q in
    let a = length-append (zeros (length q)) r in
    let z = length_zeros (length q) in
    length_plus (product q generator) (zeros (length q) ++ r) (omega arith) ∙ omega arith

whole_one : (q r : List Bool) → whole_of (true ∷ q) r ≡ true ∷ plus (under (length q)) (whole_of q r)
unfolding whole_of
whole_one q r =
    ap (λ (X : List Bool). plus X (false ∷ (zeros (length q) ++ r))) (product_one q)
    ∙ ap (λ (X : List Bool). true ∷ X) (plus_assoc (under (length q)) (product q generator) (zeros (length q) ++ r))

whole_zero : (q r : List Bool) → whole_of (false ∷ q) r ≡ false ∷ whole_of q r
unfolding whole_of
whole_zero q r = ap (λ (X : List Bool). plus X (false ∷ (zeros (length q) ++ r))) (product_zero q (length_product q))

-- long division finds the remainder
pub divided : (q r : List Bool) → length r ≡ 22 → divide (length q) (whole_of q r) ≡ r
unfolding whole_of
divided [] r e = plus_zeros 22 r (omega arith)
divided (true ∷ q) r e =
    let l = length_whole q r e in
    let u = length_under (length q) in
    ap (divide (suc (length q))) (whole_one q r)
    ∙ divide_one (length q) (length q) (plus (under (length q)) (whole_of q r)) (length_step (length q) (whole_of q r) l)
    ∙ ap (divide (length q)) (plus_twice (under (length q)) (whole_of q r) (omega arith))
    ∙ divided q r e
divided (false ∷ q) r e = ap (divide (suc (length q))) (whole_zero q r) ∙ divided q r e

-- and a quotient
pub quotient_of : ℕ → List Bool → List Bool
quotient_of zero p = []
quotient_of (suc n) [] = []
quotient_of (suc n) (true ∷ p) = true ∷ quotient_of n (plus (under n) p)
quotient_of (suc n) (false ∷ p) = false ∷ quotient_of n p

length_quotient : (n : ℕ) (p : List Bool) → length p ≡ n + 22 → length (quotient_of n p) ≡ n
unfolding quotient_of
length_quotient zero p e = refl
length_quotient (suc n) [] e = absurd (omega arith)
length_quotient (suc n) (true ∷ p) e = ap suc (length_quotient n (plus (under n) p) (length_step n p (omega arith)))
length_quotient (suc n) (false ∷ p) e = ap suc (length_quotient n p (omega arith))

pub divides : (n : ℕ) (p : List Bool) → length p ≡ n + 22 → p ≡ whole_of (quotient_of n p) (divide n p)
unfolding quotient_of whole_of
divides zero p e = sym (plus_zeros 22 p (omega arith))
divides (suc n) [] e = absurd (omega arith)
divides (suc n) (true ∷ p) e =
    let l : length p ≡ n + 22 = omega arith in
    let u = length_under n in
    let k = length_quotient n (plus (under n) p) (length_step n p l) in
    let h = divides n (plus (under n) p) (length_step n p l) in
    sym
    (ap (whole_of (true ∷ quotient_of n (plus (under n) p))) (divide_one n n p l)
    ∙ whole_one (quotient_of n (plus (under n) p)) (divide n (plus (under n) p))
    ∙ ap (λ (m : ℕ). true ∷ plus (under m) (whole_of (quotient_of n (plus (under n) p)) (divide n (plus (under n) p)))) k
    ∙ ap (λ (X : List Bool). true ∷ plus (under n) X) (sym h)
    ∙ ap (λ (X : List Bool). true ∷ X) (plus_twice (under n) p (omega arith)))
divides (suc n) (false ∷ p) e =
    let l : length p ≡ n + 22 = omega arith in
    sym (whole_zero (quotient_of n p) (divide n p) ∙ ap (λ (X : List Bool). false ∷ X) (sym (divides n p l)))

pub one_remainder : (p : List Bool) → 22 ≤ length p → OneRemainder p
unfolding remainder whole_of
one_remainder p h =
    let l : length p ≡ (length p - 22) + 22 = omega arith in
    record {
      found = record {
        short = length_divide (length p - 22) p l;
        quotient = quotient_of (length p - 22) p;
        whole = divides (length p - 22) p l;
      };
      only = λ r R.
          let m : length p - 22 ≡ length R.quotient = omega (arith, ap length R.whole, length_whole R.quotient r R.short) in
          sym (rw m (ap (divide (length R.quotient)) R.whole ∙ divided R.quotient r R.short));
    }
