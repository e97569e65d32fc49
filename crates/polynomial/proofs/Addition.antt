-- The laws of adding polynomials over the two-element field.
use Rattle.std.proofs.Common.{◌≡◌, ℕ, zero, suc, ◌+◌, ◌≤◌, Bool, true, false, List, [], ◌∷◌, ◌++◌, length, sym, refl, ap, ◌∙◌, suc-add, zero-add, arith}
use Rattle.polynomial.specs.Polynomials.{xor, zeros, plus}

pub xor_assoc : (x y z : Bool) → xor (xor x y) z ≡ xor x (xor y z)
xor_assoc true true true = refl
xor_assoc true true false = refl
xor_assoc true false z = refl
xor_assoc false y z = refl

pub xor_comm : (x y : Bool) → xor x y ≡ xor y x
xor_comm true true = refl
xor_comm true false = refl
xor_comm false true = refl
xor_comm false false = refl

pub xor_self : (x : Bool) → xor x x ≡ false
xor_self true = refl
xor_self false = refl

pub length_zeros : (n : ℕ) → length (zeros n) ≡ n
length_zeros zero = refl
length_zeros (suc n) = ap suc (length_zeros n)

pub zeros_append : (m n : ℕ) → zeros m ++ zeros n ≡ zeros (m + n)
zeros_append zero n = rw zero-add refl
zeros_append (suc m) n = rw (suc-add m n, zeros_append m n) refl

pub plus_none : (X : List Bool) → plus X [] ≡ X
plus_none [] = refl
plus_none (x ∷ X) = refl

pub plus_comm : (X Y : List Bool) → plus X Y ≡ plus Y X
plus_comm [] Y = sym (plus_none Y)
plus_comm (x ∷ X) [] = refl
plus_comm (x ∷ X) (y ∷ Y) = rw (xor_comm x y, plus_comm X Y) refl

pub plus_assoc : (X Y Z : List Bool) → plus (plus X Y) Z ≡ plus X (plus Y Z)
plus_assoc [] Y Z = refl
plus_assoc (x ∷ X) [] Z = refl
plus_assoc (x ∷ X) (y ∷ Y) [] = refl
plus_assoc (x ∷ X) (y ∷ Y) (z ∷ Z) = rw (xor_assoc x y z, plus_assoc X Y Z) refl

pub plus_zeros : (n : ℕ) (X : List Bool) → n ≤ length X → plus (zeros n) X ≡ X
plus_zeros zero X h = refl
plus_zeros (suc n) [] h = absurd (omega arith)
plus_zeros (suc n) (x ∷ X) h = rw (plus_zeros n X (omega arith)) refl

pub plus_self : (X : List Bool) → plus X X ≡ zeros (length X)
plus_self [] = refl
plus_self (x ∷ X) = rw (xor_self x, plus_self X) refl

-- what is added twice is gone
pub plus_twice : (X Y : List Bool) → length X ≤ length Y → plus X (plus X Y) ≡ Y
plus_twice X Y h = sym (plus_assoc X X Y) ∙ rw (plus_self X) (plus_zeros (length X) Y h)

pub length_plus : (X Y : List Bool) → length X ≤ length Y → length (plus X Y) ≡ length Y
length_plus [] Y h = refl
length_plus (x ∷ X) [] h = absurd (omega arith)
length_plus (x ∷ X) (y ∷ Y) h = ap suc (length_plus X Y (omega arith))

-- sums part by part
pub plus_append : (A B C D : List Bool) → length A ≡ length C → plus (A ++ B) (C ++ D) ≡ plus A C ++ plus B D
plus_append [] B [] D e = refl
plus_append [] B (c ∷ C) D e = absurd (omega arith)
plus_append (a ∷ A) B [] D e = absurd (omega arith)
plus_append (a ∷ A) B (c ∷ C) D e = rw (plus_append A B C D (omega arith)) refl
