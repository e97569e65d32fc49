-- Every edge of a lawful trellis leads from a state to a state.
use Rattle.std.proofs.Common.{◌≡◌, ℕ, zero, suc, ◌<◌, List, [], ◌∷◌, map, Some, subst, arith}
use Rattle.std.specs.List.{slice_get}
use Rattle.paths.specs.declared.edges.Edge.{Edge}
use Rattle.paths.specs.Trellises.{Meaning, Each, Lawful, LawfulEdge}

pub record Low (states : ℕ) (e : Edge) : Type 0 where
  pub from_low : e.from < states
  pub to_low : e.to < states

abbrev pub Inside : ℕ → Meaning → Type 0
Inside states m = (k : ℕ) → k < m.stages → Each (Low states) (m.edges k)

pub each_map : {A B : Type 0} (P : A → Type 0) (Q : B → Type 0) (f : A → B) → ((x : A) → P x → Q (f x)) → (xs : List A) → Each P xs → Each Q (map f xs)
each_map P Q f h [] all = tt
each_map P Q f h (x ∷ xs) all = (h x all.0, each_map P Q f h xs all.1)

pub each_so : {A : Type 0} (P Q : A → Type 0) → ((x : A) → P x → Q x) → (xs : List A) → Each P xs → Each Q xs
each_so P Q h [] all = tt
each_so P Q h (x ∷ xs) all = (h x all.0, each_so P Q h xs all.1)

pub each_nth : {A : Type 0} (P : A → Type 0) (xs : List A) (i : ℕ) (x : A) → Each P xs → slice_get xs i ≡ Some x → P x
each_nth P [] i x all h = absurd (let z : ◌≡◌ {A = ℕ} 0 1 = cc in omega arith)
each_nth P (y ∷ xs) zero x all h = let q : y ≡ x = cc in subst P q all.0
each_nth P (y ∷ xs) (suc i) x all h = each_nth P xs i x all.1 h

pub inside : {states ceiling bits : ℕ} {m : Meaning} → Lawful states ceiling bits m → Inside states m
inside {states} {ceiling} {bits} {m} law k h =
    each_so (LawfulEdge states ceiling bits) (Low states) (λ e l. record { from_low = l.from_low; to_low = l.to_low }) (m.edges k) (law.every k h)

pub edge_lawful : {states ceiling bits : ℕ} {m : Meaning} → Lawful states ceiling bits m → (k : ℕ) → k < m.stages → (i : ℕ) (e : Edge) → slice_get (m.edges k) i ≡ Some e → LawfulEdge states ceiling bits e
edge_lawful {states} {ceiling} {bits} {m} law k here i e at = each_nth (LawfulEdge states ceiling bits) (m.edges k) i e (law.every k here) at
