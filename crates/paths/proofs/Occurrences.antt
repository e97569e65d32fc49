-- How often a choice stands among the walks that are told by the numbers of their edges.
use Rattle.std.proofs.Common.{◌≡◌, ℕ, zero, suc, ◌+◌, ◌<◌, Bool, true, false, cond, eqb, List, [], ◌∷◌, ◌++◌, map, sym, refl, ap, ◌∙◌, ⊎_elim, add-zero, add-suc, suc-add, zero-add, arith}
use Rattle.std.specs.List.{flat_map}
use Rattle.std.proofs.lemmas.Bool.{eq-eqb, ne_eqb, cases_eq}
use Rattle.paths.specs.declared.edges.Edge.{Edge}
use Rattle.paths.specs.Paths.{states_below}
use Rattle.paths.specs.Choices.{numbered, numbered_walks, same, occurrences}

-- the i-th is there, and passes
abbrev pub at : List Edge → ℕ → (Edge → Bool) → Bool
at [] i f = false
at (e ∷ es) zero f = f e
at (e ∷ es) (suc i) f = at es i f

-- the choice is a walk of n stages from k on, out of s, into a state where it may stop
abbrev pub test : (ℕ → List Edge) → (ℕ → Bool) → ℕ → ℕ → ℕ → List ℕ → Bool
test g stop k zero s [] = stop s
test g stop k zero s (i ∷ c) = false
test g stop k (suc n) s [] = false
test g stop k (suc n) s (i ∷ c) = at (g k) i (λ e. cond (eqb e.from s) (test g stop (suc k) n e.to c) false)

occ_append : (c : List ℕ) (xs ys : List (List ℕ)) → occurrences c (xs ++ ys) ≡ occurrences c xs + occurrences c ys
occ_append c [] ys = sym (zero-add (occurrences c ys))
occ_append c (x ∷ xs) ys = let h = occ_append c xs ys in omega arith

occ_same : (j i : ℕ) (c : List ℕ) → eqb j i ≡ true → (ds : List (List ℕ)) → occurrences (j ∷ c) (map (◌∷◌ i) ds) ≡ occurrences c ds
occ_same j i c h [] = refl
occ_same j i c h (d ∷ ds) = ap (λ b. cond (cond b (same c d) false) 1 0 + occurrences (j ∷ c) (map (◌∷◌ i) ds)) h ∙ ap (◌+◌ (cond (same c d) 1 0)) (occ_same j i c h ds)

occ_other : (j i : ℕ) (c : List ℕ) → eqb j i ≡ false → (ds : List (List ℕ)) → occurrences (j ∷ c) (map (◌∷◌ i) ds) ≡ 0
occ_other j i c h [] = refl
occ_other j i c h (d ∷ ds) = ap (λ b. cond (cond b (same c d) false) 1 0 + occurrences (j ∷ c) (map (◌∷◌ i) ds)) h ∙ ap (◌+◌ 0) (occ_other j i c h ds)

occ_nil : (i : ℕ) (ds : List (List ℕ)) → occurrences [] (map (◌∷◌ i) ds) ≡ 0
occ_nil i [] = refl
occ_nil i (d ∷ ds) = ap (◌+◌ 0) (occ_nil i ds)

-- one stage: L is what follows an edge
module _ (s : ℕ) (L : Edge → List (List ℕ)) where
  abbrev pub here : ℕ → Edge → List (List ℕ)
  here i e = cond (eqb e.from s) (map (◌∷◌ i) (L e)) []

  numbered_nil : (i : ℕ) (es : List Edge) → occurrences [] (numbered here i es) ≡ 0
  numbered_nil i [] = refl
  numbered_nil i (e ∷ es) =
      occ_append [] (here i e) (numbered here (suc i) es)
      ∙ ap (λ u. u + occurrences [] (numbered here (suc i) es)) (elim (eqb e.from s) as (λ b. occurrences [] (cond b (map (◌∷◌ i) (L e)) []) ≡ 0) [ true ↦ occ_nil i (L e) | false ↦ refl ])
      ∙ ap (◌+◌ 0) (numbered_nil (suc i) es)

  other_here : (j i : ℕ) (c : List ℕ) (e : Edge) → (j ≡ i → ⊥) → occurrences (j ∷ c) (here i e) ≡ 0
  other_here j i c e h = elim (eqb e.from s) as (λ b. occurrences (j ∷ c) (cond b (map (◌∷◌ i) (L e)) []) ≡ 0) [ true ↦ occ_other j i c (ne_eqb j i h) (L e) | false ↦ refl ]

  numbered_low : (j i : ℕ) (c : List ℕ) (es : List Edge) → j < i → occurrences (j ∷ c) (numbered here i es) ≡ 0
  numbered_low j i c [] h = refl
  numbered_low j i c (e ∷ es) h =
      occ_append (j ∷ c) (here i e) (numbered here (suc i) es)
      ∙ ap (λ u. u + occurrences (j ∷ c) (numbered here (suc i) es)) (other_here j i c e (λ q. omega arith))
      ∙ ap (◌+◌ 0) (numbered_low j (suc i) c es (omega arith))

  module _ (c : List ℕ) (T : Edge → Bool) (right : (e : Edge) → occurrences c (L e) ≡ cond (T e) 1 0) where
    numbered_at : (i d : ℕ) (es : List Edge) → occurrences ((i + d) ∷ c) (numbered here i es) ≡ cond (at es d (λ e. cond (eqb e.from s) (T e) false)) 1 0
    numbered_at i d [] = refl
    numbered_at i zero (e ∷ es) =
        occ_append ((i + 0) ∷ c) (here i e) (numbered here (suc i) es)
        ∙ ap (◌+◌ (occurrences ((i + 0) ∷ c) (here i e))) (numbered_low (i + 0) (suc i) c es (omega arith))
        ∙ add-zero (occurrences ((i + 0) ∷ c) (here i e))
        ∙ elim (eqb e.from s) as (λ b. occurrences ((i + 0) ∷ c) (cond b (map (◌∷◌ i) (L e)) []) ≡ cond (cond b (T e) false) 1 0)
        [ true ↦ occ_same (i + 0) i c (eq-eqb (i + 0) i (add-zero i)) (L e) ∙ right e | false ↦ refl ]
    numbered_at i (suc d) (e ∷ es) =
        occ_append ((i + suc d) ∷ c) (here i e) (numbered here (suc i) es)
        ∙ ap (λ u. u + occurrences ((i + suc d) ∷ c) (numbered here (suc i) es)) (other_here (i + suc d) i c e (λ q. omega arith))
        ∙ zero-add (occurrences ((i + suc d) ∷ c) (numbered here (suc i) es))
        ∙ ap (λ j. occurrences (j ∷ c) (numbered here (suc i) es)) (add-suc i d ∙ sym (suc-add i d))
        ∙ numbered_at (suc i) d es

pub walks_count : (g : ℕ → List Edge) (stop : ℕ → Bool) (k n s : ℕ) (c : List ℕ) → occurrences c (numbered_walks g stop k n s) ≡ cond (test g stop k n s c) 1 0
unfolding numbered_walks
walks_count g stop k zero s [] = elim (stop s) as (λ b. occurrences [] (cond b ([] ∷ []) []) ≡ cond b 1 0) [ true ↦ refl | false ↦ refl ]
walks_count g stop k zero s (i ∷ c) = elim (stop s) as (λ b. occurrences (i ∷ c) (cond b ([] ∷ []) []) ≡ 0) [ true ↦ refl | false ↦ refl ]
walks_count g stop k (suc n) s [] = numbered_nil s (λ e. numbered_walks g stop (suc k) n e.to) 0 (g k)
walks_count g stop k (suc n) s (i ∷ c) =
    ap (λ j. occurrences (j ∷ c) (numbered (here s (λ e. numbered_walks g stop (suc k) n e.to)) 0 (g k))) (sym (zero-add i))
    ∙ numbered_at s (λ e. numbered_walks g stop (suc k) n e.to) c (λ e. test g stop (suc k) n e.to c) (λ e. walks_count g stop (suc k) n e.to c) 0 i (g k)

-- joined over states
module _ (c : List ℕ) (H : ℕ → List (List ℕ)) (t : ℕ → Bool) (right : (s : ℕ) → occurrences c (H s) ≡ cond (t s) 1 0) where
  pub none_of : (n : ℕ) → ((s : ℕ) → s < n → t s ≡ false) → occurrences c (flat_map H (states_below n)) ≡ 0
  none_of zero h = refl
  none_of (suc n) h =
      occ_append c (H n) (flat_map H (states_below n))
      ∙ ap (λ u. u + occurrences c (flat_map H (states_below n))) (right n ∙ ap (λ b. cond b 1 0) (h n (omega arith)))
      ∙ ap (◌+◌ 0) (none_of n (λ s l. h s (omega arith)))

  pub one_of : (n v : ℕ) → v < n → t v ≡ true → ((s : ℕ) → (s ≡ v → ⊥) → t s ≡ false) → occurrences c (flat_map H (states_below n)) ≡ 1
  one_of zero v l is nay = absurd (omega arith)
  one_of (suc n) v l is nay =
      ⊎_elim
      (λ e.
      occ_append c (H n) (flat_map H (states_below n))
      ∙ ap (λ u. u + occurrences c (flat_map H (states_below n))) (right n ∙ ap (λ b. cond b 1 0) (ap t (sym e) ∙ is))
      ∙ ap (◌+◌ 1) (none_of n (λ s k. nay s (λ q. omega arith))))
      (λ e.
      occ_append c (H n) (flat_map H (states_below n))
      ∙ ap (λ u. u + occurrences c (flat_map H (states_below n))) (right n ∙ ap (λ b. cond b 1 0) (nay n (λ q. e (sym q))))
      ∙ ap (◌+◌ 0) (one_of n v (omega arith) is nay))
      (cases_eq v n)
