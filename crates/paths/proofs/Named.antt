-- The paths are the choices, by their edges.
use Rattle.std.proofs.Common.{◌≡◌, ℕ, zero, suc, ◌+◌, Bool, true, false, cond, eqb, List, [], ◌∷◌, ◌++◌, map, sym, refl, ap, ◌∙◌, add-zero, add-suc, suc-add, zero-add}
use Rattle.std.specs.List.{flat_map}
use Rattle.std.proofs.lemmas.List.{map-append}
use Rattle.paths.specs.declared.edges.Edge.{Edge}
use Rattle.paths.specs.Trellises.{Meaning}
use Rattle.paths.specs.Paths.{states_below, walks, paths}
use Rattle.paths.specs.Choices.{numbered, numbered_walks, choices, pick, edges_of}
use Rattle.paths.proofs.Occurrences.{here}

map_joined : {A B C : Type 0} (f : B → C) (h : A → List B) (xs : List A) → map f (flat_map h xs) ≡ flat_map (λ x. map f (h x)) xs
map_joined f h [] = refl
map_joined f h (x ∷ xs) = map-append f (h x) (flat_map h xs) ∙ ap (◌++◌ (map f (h x))) (map_joined f h xs)

joined_cong : {A B : Type 0} (f h : A → List B) → ((x : A) → f x ≡ h x) → (xs : List A) → flat_map f xs ≡ flat_map h xs
joined_cong f h q [] = refl
joined_cong f h q (x ∷ xs) = ap (λ u. u ++ flat_map f xs) (q x) ∙ ap (◌++◌ (h x)) (joined_cong f h q xs)

module _ (g : ℕ → List Edge) (stop : ℕ → Bool) (k n s : ℕ) (same_after : (e : Edge) → walks g stop (suc k) n e.to ≡ map (edges_of g (suc k)) (numbered_walks g stop (suc k) n e.to)) where
  name_first : (i : ℕ) (e : Edge) → pick (g k) i ≡ e ∷ [] → (cs : List (List ℕ)) → map (◌∷◌ e) (map (edges_of g (suc k)) cs) ≡ map (edges_of g k) (map (◌∷◌ i) cs)
  name_first i e h [] = refl
  name_first i e h (c ∷ cs) = ap (λ l. (l ++ edges_of g (suc k) c) ∷ map (◌∷◌ e) (map (edges_of g (suc k)) cs)) (sym h) ∙ ap (◌∷◌ (pick (g k) i ++ edges_of g (suc k) c)) (name_first i e h cs)

  name_all : (i : ℕ) (es : List Edge) → ((d : ℕ) → pick (g k) (i + d) ≡ pick es d)
      → flat_map (λ e. cond (eqb e.from s) (map (◌∷◌ e) (walks g stop (suc k) n e.to)) []) es ≡ map (edges_of g k) (numbered (here s (λ e. numbered_walks g stop (suc k) n e.to)) i es)
  name_all i [] h = refl
  name_all i (e ∷ es) h =
      ap (λ u. u ++ flat_map (λ e. cond (eqb e.from s) (map (◌∷◌ e) (walks g stop (suc k) n e.to)) []) es)
      (elim (eqb e.from s) as (λ b. cond b (map (◌∷◌ e) (walks g stop (suc k) n e.to)) [] ≡ map (edges_of g k) (cond b (map (◌∷◌ i) (numbered_walks g stop (suc k) n e.to)) []))
      [ true ↦ ap (map (◌∷◌ e)) (same_after e) ∙ name_first i e (ap (pick (g k)) (sym (add-zero i)) ∙ h 0) (numbered_walks g stop (suc k) n e.to) | false ↦ refl ])
      ∙ ap (◌++◌ (map (edges_of g k) (here s (λ e. numbered_walks g stop (suc k) n e.to) i e))) (name_all (suc i) es (λ d. ap (pick (g k)) (suc-add i d ∙ sym (add-suc i d)) ∙ h (suc d)))
      ∙ sym (map-append (edges_of g k) (here s (λ e. numbered_walks g stop (suc k) n e.to) i e) (numbered (here s (λ e. numbered_walks g stop (suc k) n e.to)) (suc i) es))

pub walks_named : (g : ℕ → List Edge) (stop : ℕ → Bool) (k n s : ℕ) → walks g stop k n s ≡ map (edges_of g k) (numbered_walks g stop k n s)
unfolding walks numbered_walks
walks_named g stop k zero s = elim (stop s) as (λ b. cond b ([] ∷ []) [] ≡ map (edges_of g k) (cond b ([] ∷ []) [])) [ true ↦ refl | false ↦ refl ]
walks_named g stop k (suc n) s = name_all g stop k n s (λ e. walks_named g stop (suc k) n e.to) 0 (g k) (λ d. ap (pick (g k)) (zero-add d))

pub paths_named : (states : ℕ) (m : Meaning) → paths states m ≡ map (edges_of m.edges 0) (choices states m)
paths_named states m =
    joined_cong (λ s. cond (m.first s) (walks m.edges m.last 0 m.stages s) []) (λ s. map (edges_of m.edges 0) (cond (m.first s) (numbered_walks m.edges m.last 0 m.stages s) []))
    (λ s. elim (m.first s) as (λ b. cond b (walks m.edges m.last 0 m.stages s) [] ≡ map (edges_of m.edges 0) (cond b (numbered_walks m.edges m.last 0 m.stages s) []))
    [ true ↦ walks_named m.edges m.last 0 m.stages s | false ↦ refl ]) (states_below states)
    ∙ sym (map_joined (edges_of m.edges 0) (λ s. cond (m.first s) (numbered_walks m.edges m.last 0 m.stages s) []) (states_below states))
