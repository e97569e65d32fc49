-- On every path of the outer trellis the last two data bits are zero.
use Rattle.std.proofs.Common.{◌≡◌, ℕ, zero, suc, ◌+◌, ◌<◌, ◌≤◌, Bool, true, false, cond, eqb, List, [], ◌∷◌, ◌++◌, map, ℤ, filter, sym, refl, ap, ◌∙◌, subst, arith}
use Rattle.std.specs.List.{flat_map}
use Rattle.paths.specs.declared.edges.Edge.{Edge}
use Rattle.paths.specs.Trellises.{Each}
use Rattle.paths.specs.Paths.{states_below, walks, paths, at_stage, bit_is}
use Rattle.paths.proofs.Inside.{each_map}
use Rattle.trellises.specs.Outer.{outer, outer_at}
use Rattle.trellises.specs.Forced.{LastBitsZero}

each_append : {A : Type 0} (P : A → Type 0) (xs ys : List A) → Each P xs → Each P ys → Each P (xs ++ ys)
each_append P [] ys h k = k
each_append P (x ∷ xs) ys h k = (h.0, each_append P xs ys h.1 k)

each_joined : {A B : Type 0} (P : B → Type 0) (f : A → List B) (xs : List A) → Each (λ x. Each P (f x)) xs → Each P (flat_map f xs)
each_joined P f [] h = tt
each_joined P f (x ∷ xs) h = each_append P (f x) (flat_map f xs) h.0 (each_joined P f xs h.1)

each_all : {A : Type 0} (P : A → Type 0) → ((x : A) → P x) → (xs : List A) → Each P xs
each_all P h [] = tt
each_all P h (x ∷ xs) = (h x, each_all P h xs)

each_cond : {A : Type 0} (P : A → Type 0) (b : Bool) (xs : List A) → Each P xs → Each P (cond b xs [])
each_cond P b xs h = elim b as (λ b. Each P (cond b xs [])) [ true ↦ h | false ↦ tt ]

kept_none : {A : Type 0} (test : A → Bool) (xs : List A) → Each (λ x. test x ≡ false) xs → filter test xs ≡ []
kept_none test [] h = refl
kept_none test (x ∷ xs) h = ap (λ b. cond b (x ∷ filter test xs) (filter test xs)) h.0 ∙ kept_none test xs h.1

-- edge number j of a walk has no one as its data bit
abbrev Quiet : ℕ → List Edge → Type 0
Quiet j p = at_stage j (bit_is 2 1) p ≡ false

quiet_first : (e : Edge) (ps : List (List Edge)) → bit_is 2 1 e ≡ false → Each (Quiet 0) (map (◌∷◌ e) ps)
quiet_first e [] h = tt
quiet_first e (p ∷ ps) h = (h, quiet_first e ps h)

module _ (n : ℕ) (priors : List ℤ) where
  -- the walks of d + 1 stages whose first edge is e, where they may begin with it
  abbrev onward : ℕ → ℕ → ℕ → Edge → List (List Edge)
  onward k d s e = cond (eqb e.from s) (map (◌∷◌ e) (walks (outer n priors).edges (outer n priors).last (suc k) d e.to)) []

  even : (k d s i : ℕ) → bit_is 2 1 (outer_at priors k i) ≡ false → Each (Quiet 0) (onward k d s (outer_at priors k i))
  even k d s i h = let e = outer_at priors k i in let ps = walks (outer n priors).edges (outer n priors).last (suc k) d e.to in each_cond (Quiet 0) (eqb e.from s) (map (◌∷◌ e) ps) (quiet_first e ps h)

  odd : (k d s i : ℕ) → walks (outer n priors).edges (outer n priors).last (suc k) d (outer_at priors k i).to ≡ [] → Each (Quiet 0) (onward k d s (outer_at priors k i))
  odd k d s i h =
      let e = outer_at priors k i in
      each_cond (Quiet 0) (eqb e.from s) (map (◌∷◌ e) (walks (outer n priors).edges (outer n priors).last (suc k) d e.to))
      (subst (λ ps. Each (Quiet 0) (map (◌∷◌ e) ps)) (sym h) tt)

  -- with one or no stage to go there is no way home from an odd state
  no_way_home : (k d : ℕ) → d < 2 → (walks (outer n priors).edges (outer n priors).last k d 1 ≡ []) × (walks (outer n priors).edges (outer n priors).last k d 3 ≡ [])
  unfolding walks
  no_way_home k zero h = (refl, refl)
  no_way_home k (suc zero) h = (refl, refl)
  no_way_home k (suc (suc d)) h = absurd (omega arith)

  -- so the first edge of a walk of one or two stages has no one
  quiet_tail : (k d s : ℕ) → d < 2 → Each (Quiet 0) (walks (outer n priors).edges (outer n priors).last k (suc d) s)
  unfolding walks
  quiet_tail k d s h =
      let one = (no_way_home (suc k) d h).0 in
      let three = (no_way_home (suc k) d h).1 in
      each_joined (Quiet 0) (onward k d s) ((outer n priors).edges k)
      (even k d s 0 refl, (odd k d s 1 one, (even k d s 2 refl, (odd k d s 3 three, (even k d s 4 refl, (odd k d s 5 one, (even k d s 6 refl, (odd k d s 7 three, tt))))))))

  quiet : (j k d s : ℕ) → d ≤ j + 2 → Each (Quiet j) (walks (outer n priors).edges (outer n priors).last k d s)
  unfolding walks
  quiet j k zero s h = each_cond (Quiet j) (eqb s 0) ([] ∷ []) (refl, tt)
  quiet zero k (suc d) s h = quiet_tail k d s (omega arith)
  quiet (suc j) k (suc d) s h =
      each_joined (Quiet (suc j)) (onward k d s) ((outer n priors).edges k)
      (each_all (λ e. Each (Quiet (suc j)) (onward k d s e)) (λ e.
      let ps = walks (outer n priors).edges (outer n priors).last (suc k) d e.to in
      each_cond (Quiet (suc j)) (eqb e.from s) (map (◌∷◌ e) ps) (each_map (Quiet j) (Quiet (suc j)) (◌∷◌ e) (λ p q. q) ps (quiet j (suc k) d e.to (omega arith))))
      ((outer n priors).edges k))

pub last_zero : LastBitsZero
last_zero n priors k low last =
    kept_none (at_stage k (bit_is 2 1)) (paths 4 (outer n priors))
    (each_joined (Quiet k) (λ s. cond (eqb s 0) (walks (outer n priors).edges (outer n priors).last 0 n s) []) (states_below 4)
    (each_all (λ s. Each (Quiet k) (cond (eqb s 0) (walks (outer n priors).edges (outer n priors).last 0 n s) [])) (λ s.
    each_cond (Quiet k) (eqb s 0) (walks (outer n priors).edges (outer n priors).last 0 n s) (quiet n priors k 0 n s (omega arith))) (states_below 4)))
