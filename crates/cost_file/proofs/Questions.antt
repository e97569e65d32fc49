-- What a first fault, or none, says of the questions asked.
use Rattle.std.proofs.Common.{◌≡◌, ℕ, Bool, true, false, List, Some, None, Option, refl, arith}
use Rattle.std.specs.Str.{bytes_eq}
use Rattle.std.proofs.lemmas.Slice.Eq.{bytes_eq-Decides}
use Rattle.cost_file.specs.declared.faults.Fault.{Fault}
use Rattle.plans.specs.Refusals.{unless, first_of}

pub some_none : {A : Type 0} {x : A} → Some x ≡ None → ⊥
some_none h = let z : ◌≡◌ {A = ℕ} 0 1 = cc in omega arith

pub unless_none : (b : Bool) (x : Fault) → unless b x ≡ None → b ≡ true
unless_none true x h = refl
unless_none false x h = absurd (some_none h)

pub first_none : (o later : Option Fault) → first_of o later ≡ None → (o ≡ None) × (later ≡ None)
first_none None later h = (refl, h)
first_none (Some x) later h = absurd (some_none h)

pub none_first : (o later : Option Fault) → o ≡ None → later ≡ None → first_of o later ≡ None
none_first o later e h = rw (e, h) refl

pub same_refl : (xs : List ℕ) → bytes_eq xs xs ≡ true
same_refl xs = (bytes_eq-Decides xs xs).1 refl

pub same_true : (xs ys : List ℕ) → bytes_eq xs ys ≡ true → xs ≡ ys
same_true xs ys h = (bytes_eq-Decides xs ys).0 h
