-- That some element of a list has a property: through appends, maps, filters and joins of least costs.
use Rattle.std.proofs.Common.{◌≡◌, ℕ, zero, suc, ◌<◌, ◌≤◌, Bool, true, false, cond, ◌⊎◌, List, [], ◌∷◌, ◌++◌, map, Some, filter, sym, subst, inl, inr, ⊎_elim, arith}
use Rattle.std.specs.List.{slice_get, flat_map}
use Rattle.std.proofs.lemmas.Bool.{cases_eq}
use Rattle.paths.specs.Paths.{states_below, join_over}
use Rattle.paths.specs.Least.{least}

abbrev pub One : {A : Type 0} → (A → Type 0) → List A → Type 0
One P [] = ⊥
One P (x ∷ xs) = P x ⊎ One P xs

one_left : {A : Type 0} (P : A → Type 0) (xs ys : List A) → One P xs → One P (xs ++ ys)
one_left P [] ys h = absurd h
one_left P (x ∷ xs) ys h = ⊎_elim (λ here. inl here) (λ more. inr (one_left P xs ys more)) h

one_right : {A : Type 0} (P : A → Type 0) (xs ys : List A) → One P ys → One P (xs ++ ys)
one_right P [] ys h = h
one_right P (x ∷ xs) ys h = inr (one_right P xs ys h)

pub one_map : {A B : Type 0} (P : A → Type 0) (Q : B → Type 0) (f : A → B) → ((x : A) → P x → Q (f x)) → (xs : List A) → One P xs → One Q (map f xs)
one_map P Q f so [] h = absurd h
one_map P Q f so (x ∷ xs) h = ⊎_elim (λ here. inl (so x here)) (λ more. inr (one_map P Q f so xs more)) h

pub one_cond : {A : Type 0} (P : A → Type 0) (b : Bool) (xs : List A) → b ≡ true → One P xs → One P (cond b xs [])
one_cond P b xs e h = subst (λ b. One P (cond b xs [])) (sym e) h

pub one_joined : {A B : Type 0} (P : B → Type 0) (f : A → List B) (xs : List A) (i : ℕ) (x : A) → slice_get xs i ≡ Some x → One P (f x) → One P (flat_map f xs)
one_joined P f [] i x e h = let z : ◌≡◌ {A = ℕ} 0 1 = cc in absurd (omega arith)
one_joined P f (y ∷ xs) zero x e h = let q : x ≡ y = cc in one_left P (f y) (flat_map f xs) (subst (λ x. One P (f x)) q h)
one_joined P f (y ∷ xs) (suc i) x e h = one_right P (f y) (flat_map f xs) (one_joined P f xs i x e h)

pub one_state : {B : Type 0} (P : B → Type 0) (f : ℕ → List B) (n s : ℕ) → s < n → One P (f s) → One P (flat_map f (states_below n))
one_state P f zero s l h = absurd (omega arith)
one_state P f (suc n) s l h =
    ⊎_elim
    (λ (e : s ≡ n). one_left P (f n) (flat_map f (states_below n)) (subst (λ s. One P (f s)) e h))
    (λ (e : s ≡ n → ⊥). one_right P (f n) (flat_map f (states_below n)) (one_state P f n s (omega arith) h))
    (cases_eq s n)

pub one_kept : {A : Type 0} (P : A → Type 0) (test : A → Bool) (xs : List A) → One (λ x. (test x ≡ true) × P x) xs → One P (filter test xs)
one_kept P test [] h = absurd h
one_kept P test (x ∷ xs) h =
    ⊎_elim
    (λ here. subst (λ b. One P (cond b (x ∷ filter test xs) (filter test xs))) (sym here.0) (inl here.1))
    (λ more. elim (test x) as (λ b. One P (cond b (x ∷ filter test xs) (filter test xs))) [ true ↦ inr (one_kept P test xs more) | false ↦ one_kept P test xs more ])
    h

-- the least is at most any
pub one_least : {A : Type 0} (f : A → ℕ) (c : ℕ) (xs : List A) → One (λ x. f x ≤ c) xs → join_over least f xs ≤ c
unfolding join_over
one_least f c [] h = absurd h
one_least f c (x ∷ xs) h = ⊎_elim (λ here. omega arith) (λ more. omega (arith, one_least f c xs more)) h
