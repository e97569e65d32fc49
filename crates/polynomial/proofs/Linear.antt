-- Long division is linear, so eight coefficients more can be divided at once.
use Rattle.std.proofs.Common.{◌≡◌, ℕ, zero, suc, ◌+◌, ◌-◌, ◌≤◌, Bool, true, false, List, [], ◌∷◌, ◌++◌, length, sym, refl, ap, ◌∙◌, suc-add, zero-add, arith, length-append}
use Rattle.std.proofs.lemmas.List.{append_assoc}
use Rattle.polynomial.specs.Polynomials.{zeros, plus, generator_rest, divide, remainder}
use Rattle.polynomial.proofs.Addition.{length_zeros, plus_assoc, plus_comm, plus_zeros, plus_twice, plus_append, length_plus, zeros_append}
use Rattle.polynomial.proofs.Division.{under, length_under, length_step, divide_one}

-- the generator is taken off both summands, or off one of them
both : (U A B : List Bool) → length U ≤ length B → plus (plus U A) (plus U B) ≡ plus A B
both U A B h = ap (λ (X : List Bool). plus X (plus U B)) (plus_comm U A) ∙ plus_assoc A U (plus U B) ∙ ap (plus A) (plus_twice U B h)

second : (U A B : List Bool) → plus U (plus A B) ≡ plus A (plus U B)
second U A B = sym (plus_assoc U A B) ∙ ap (λ (X : List Bool). plus X B) (plus_comm U A) ∙ plus_assoc A U B

-- a sum is divided by dividing its summands
pub divide_plus : (n m : ℕ) (A B : List Bool) → length A ≡ n + m + 22 → length B ≡ n + m + 22 → divide n (plus A B) ≡ plus (divide n A) (divide n B)
divide_plus zero m A B a b = refl
divide_plus (suc n) m [] B a b = absurd (omega arith)
divide_plus (suc n) m (x ∷ A) [] a b = absurd (omega arith)
divide_plus (suc n) m (true ∷ A) (true ∷ B) a b =
    let a' : length A ≡ n + m + 22 = omega arith in
    let b' : length B ≡ n + m + 22 = omega arith in
    let u = length_under (n + m) in
    ap (divide n) (sym (both (under (n + m)) A B (omega arith)))
    ∙ divide_plus n m (plus (under (n + m)) A) (plus (under (n + m)) B) (length_step (n + m) A a') (length_step (n + m) B b')
    ∙ sym (ap (plus (divide (suc n) (true ∷ A))) (divide_one n (n + m) B b') ∙ ap (λ (X : List Bool). plus X (divide n (plus (under (n + m)) B))) (divide_one n (n + m) A a'))
divide_plus (suc n) m (true ∷ A) (false ∷ B) a b =
    let a' : length A ≡ n + m + 22 = omega arith in
    let b' : length B ≡ n + m + 22 = omega arith in
    divide_one n (n + m) (plus A B) (length_plus A B (omega arith) ∙ b')
    ∙ ap (divide n) (sym (plus_assoc (under (n + m)) A B))
    ∙ divide_plus n m (plus (under (n + m)) A) B (length_step (n + m) A a') b'
    ∙ ap (λ (X : List Bool). plus X (divide n B)) (sym (divide_one n (n + m) A a'))
divide_plus (suc n) m (false ∷ A) (true ∷ B) a b =
    let a' : length A ≡ n + m + 22 = omega arith in
    let b' : length B ≡ n + m + 22 = omega arith in
    divide_one n (n + m) (plus A B) (length_plus A B (omega arith) ∙ b')
    ∙ ap (divide n) (second (under (n + m)) A B)
    ∙ divide_plus n m A (plus (under (n + m)) B) a' (length_step (n + m) B b')
    ∙ ap (plus (divide n A)) (sym (divide_one n (n + m) B b'))
divide_plus (suc n) m (false ∷ A) (false ∷ B) a b = divide_plus n m A B (omega arith) (omega arith)

-- leading zeros have the quotient zero
pub divide_zeros : (n : ℕ) (X : List Bool) → divide n (zeros n ++ X) ≡ X
divide_zeros zero X = refl
divide_zeros (suc n) X = divide_zeros n X

divide_end : (n : ℕ) → divide n [] ≡ []
divide_end zero = refl
divide_end (suc n) = refl

-- steps of long division, some first and the others then
pub divide_split : (m n : ℕ) (p : List Bool) → divide (m + n) p ≡ divide n (divide m p)
divide_split zero n p = rw zero-add refl
divide_split (suc m) n [] = rw suc-add (sym (divide_end n))
divide_split (suc m) n (true ∷ p) = rw suc-add (divide_split m n (plus (generator_rest ++ zeros (length p - 22)) p))
divide_split (suc m) n (false ∷ p) = rw suc-add (divide_split m n p)

under_append : (n m : ℕ) → under (n + m) ≡ under n ++ zeros m
unfolding under
under_append n m = ap (λ (X : List Bool). generator_rest ++ X) (sym (zeros_append n m))

-- lower powers behind what is divided stay as they are
pub divide_append : (n : ℕ) (A B : List Bool) → length A ≡ n + 22 → divide n (A ++ B) ≡ divide n A ++ B
divide_append zero A B e = refl
divide_append (suc n) [] B e = absurd (omega arith)
divide_append (suc n) (true ∷ A) B e =
    let l : length A ≡ n + 22 = omega arith in
    let k : length (A ++ B) ≡ (n + length B) + 22 = length-append A B ∙ omega arith in
    divide_one n (n + length B) (A ++ B) k
    ∙ ap (λ (X : List Bool). divide n (plus X (A ++ B))) (under_append n (length B))
    ∙ ap (divide n) (plus_append (under n) (zeros (length B)) A B (length_under n ∙ sym l))
    ∙ ap (λ (X : List Bool). divide n (plus (under n) A ++ X)) (plus_zeros (length B) B (omega arith))
    ∙ divide_append n (plus (under n) A) B (length_step n A l)
    ∙ ap (λ (X : List Bool). X ++ B) (sym (divide_one n n A l))
divide_append (suc n) (false ∷ A) B e = divide_append n A B (omega arith)

-- the remainder of p(z) z^22
pub remainder_of : (p : List Bool) → remainder (p ++ zeros 22) ≡ divide (length p) (p ++ zeros 22)
unfolding remainder
remainder_of p =
    let k : length (p ++ zeros 22) - 22 ≡ length p = ap (λ (n : ℕ). n - 22) (length-append p (zeros 22)) ∙ omega arith in
    ap (λ (n : ℕ). divide n (p ++ zeros 22)) k

module _ (p x H L : List Bool) (x8 : length x ≡ 8) (h8 : length H ≡ 8) (l14 : length L ≡ 14) where
  -- eight coefficients x behind p are apart from p
  apart : p ++ (x ++ zeros 22) ≡ plus ((p ++ zeros 22) ++ zeros 8) (zeros (length p) ++ (x ++ zeros 22))
  apart =
      let b : length (x ++ zeros 22) ≡ 30 = length-append x (zeros 22) ∙ omega arith in
      sym
      (ap (λ (X : List Bool). plus X (zeros (length p) ++ (x ++ zeros 22))) (append_assoc p (zeros 22) (zeros 8))
      ∙ plus_append p (zeros 30) (zeros (length p)) (x ++ zeros 22) (sym (length_zeros (length p)))
      ∙ ap (λ (X : List Bool). X ++ plus (zeros 30) (x ++ zeros 22)) (plus_comm p (zeros (length p)) ∙ plus_zeros (length p) p (omega arith))
      ∙ ap (λ (X : List Bool). p ++ X) (plus_zeros 30 (x ++ zeros 22) (omega arith)))

  low : plus (L ++ zeros 8) (zeros 22) ≡ L ++ zeros 8
  low =
      let b : length (L ++ zeros 8) ≡ 22 = length-append L (zeros 8) ∙ omega arith in
      plus_comm (L ++ zeros 8) (zeros 22) ∙ plus_zeros 22 (L ++ zeros 8) (omega arith)

  first : divide (length p) (p ++ zeros 22) ≡ H ++ L → divide (length p) (p ++ (x ++ zeros 22)) ≡ plus H x ++ (L ++ zeros 8)
  first e =
      let a : length (p ++ zeros 22) ≡ length p + 22 = length-append p (zeros 22) in
      let b : length (x ++ zeros 22) ≡ 30 = length-append x (zeros 22) ∙ omega arith in
      ap (divide (length p)) apart
      ∙ divide_plus (length p) 8 ((p ++ zeros 22) ++ zeros 8) (zeros (length p) ++ (x ++ zeros 22))
      (length-append (p ++ zeros 22) (zeros 8) ∙ omega arith)
      (length-append (zeros (length p)) (x ++ zeros 22) ∙ omega (arith, length_zeros (length p)))
      ∙ ap (plus (divide (length p) ((p ++ zeros 22) ++ zeros 8))) (divide_zeros (length p) (x ++ zeros 22))
      ∙ ap (λ (X : List Bool). plus X (x ++ zeros 22)) (divide_append (length p) (p ++ zeros 22) (zeros 8) a ∙ ap (λ (X : List Bool). X ++ zeros 8) e ∙ append_assoc H L (zeros 8))
      ∙ plus_append H (L ++ zeros 8) x (zeros 22) (h8 ∙ sym x8)
      ∙ ap (λ (X : List Bool). plus H x ++ X) low

  then : divide 8 (plus H x ++ (L ++ zeros 8)) ≡ plus (divide 8 (plus H x ++ zeros 22)) (L ++ zeros 8)
  then =
      let s : length (plus H x) ≡ 8 = length_plus H x (omega arith) ∙ x8 in
      let b : length (L ++ zeros 8) ≡ 22 = length-append L (zeros 8) ∙ omega arith in
      ap (divide 8)
      (sym
      (plus_append (plus H x) (zeros 22) (zeros 8) (L ++ zeros 8) s
      ∙ ap (λ (X : List Bool). X ++ plus (zeros 22) (L ++ zeros 8)) (plus_comm (plus H x) (zeros 8) ∙ plus_zeros 8 (plus H x) (omega arith))
      ∙ ap (λ (X : List Bool). plus H x ++ X) (plus_zeros 22 (L ++ zeros 8) (omega arith))))
      ∙ divide_plus 8 0 (plus H x ++ zeros 22) (zeros 8 ++ (L ++ zeros 8)) (length-append (plus H x) (zeros 22) ∙ omega arith) (omega arith)

  -- the remainder, its eight highest coefficients apart, gives the remainder with eight coefficients more
  pub eight_more : remainder (p ++ zeros 22) ≡ H ++ L → remainder ((p ++ x) ++ zeros 22) ≡ plus (remainder (plus H x ++ zeros 22)) (L ++ zeros 8)
  eight_more e =
      let s : length (plus H x) ≡ 8 = length_plus H x (omega arith) ∙ x8 in
      let k : length (p ++ x) ≡ length p + 8 = length-append p x ∙ omega arith in
      remainder_of (p ++ x)
      ∙ ap (divide (length (p ++ x))) (append_assoc p x (zeros 22))
      ∙ ap (λ (n : ℕ). divide n (p ++ (x ++ zeros 22))) k
      ∙ divide_split (length p) 8 (p ++ (x ++ zeros 22))
      ∙ ap (divide 8) (first (sym (remainder_of p) ∙ e))
      ∙ then
      ∙ ap (λ (X : List Bool). plus X (L ++ zeros 8)) (sym (remainder_of (plus H x) ∙ ap (λ (n : ℕ). divide n (plus H x ++ zeros 22)) s))
