-- Joined in whatever order and grouping, the values at the passing places are the join over those places.
use Rattle.std.proofs.Common.{◌≡◌, ℕ, zero, suc, ◌<◌, Bool, true, false, cond, ◌||◌, eqb, List, [], ◌∷◌, length, Some, filter, Option, sym, refl, ap, ◌∙◌, ⊎_elim}
use Rattle.std.specs.List.{slice_get}
use Rattle.std.proofs.lemmas.Bool.{eq-eqb, ne_eqb, cases_eq, cases_Bool, or_left, or_right}
use Rattle.paths.specs.Semirings.{Operations, Semiring}
use Rattle.paths.specs.Paths.{states_below, join_over}
use Rattle.paths.specs.Joins.{Joins, nothing, single, both}
use Rattle.paths.proofs.Overs.{over_cong, over_none, over_fine, over_kept, over_join, over_one, none_join, cond_fine}

-- a place that alone passes
alone : (pass : ℕ → Bool) (i : ℕ) → pass i ≡ true → ((j : ℕ) → pass j ≡ true → j ≡ i) → (j : ℕ) → pass j ≡ eqb i j
alone pass i is only j =
    ⊎_elim (λ e. ap pass (sym e) ∙ is ∙ sym (eq-eqb i j e))
    (λ apart. ⊎_elim (λ t. absurd (apart (sym (only j t)))) (λ f. f) (cases_Bool (pass j)) ∙ sym (ne_eqb i j apart))
    (cases_eq i j)

module _ {W : Type 0} {fine : W → Type 0} {o : Operations W} (laws : Semiring fine o) where
  either_passes : (a b : Bool) (x : W) → fine x → (a ≡ true → b ≡ true → ⊥) → o.join (cond a x o.none) (cond b x o.none) ≡ cond (a || b) x o.none
  either_passes true true x ok apart = absurd (apart refl refl)
  either_passes true false x ok apart = laws.join_none x ok
  either_passes false true x ok apart = none_join laws x ok
  either_passes false false x ok apart = laws.join_none _ laws.none_fine

  module _ (f : ℕ → W) (ok : (i : ℕ) → fine (f i)) (n : ℕ) where
    over_passing : (pass : ℕ → Bool) (x : W) → Joins o f pass x → ((i : ℕ) → pass i ≡ true → i < n) → x ≡ join_over o (λ i. cond (pass i) (f i) o.none) (states_below n)
    over_passing _ _ (nothing pass none) low =
        sym (over_cong o (λ i. cond (pass i) (f i) o.none) (λ i. o.none) (λ i. ap (λ b. cond b (f i) o.none) (none i)) (states_below n) ∙ over_none laws (states_below n))
    over_passing _ _ (single pass i is only) low =
        sym (over_cong o (λ j. cond (pass j) (f j) o.none) (λ j. cond (eqb i j) (f j) o.none) (λ j. ap (λ b. cond b (f j) o.none) (alone pass i is only j)) (states_below n)
        ∙ over_one laws f ok n i (low i is))
    over_passing _ _ (both left right pass x y jl jr apart is) low =
        ap (λ u. o.join u y) (over_passing left x jl (λ i t. low i (is i ∙ or_left (left i) (right i) t)))
        ∙ ap (o.join (join_over o (λ i. cond (left i) (f i) o.none) (states_below n))) (over_passing right y jr (λ i t. low i (is i ∙ or_right (left i) (right i) t)))
        ∙ sym (over_join laws (λ i. cond (left i) (f i) o.none) (λ i. cond_fine laws (left i) (f i) (ok i)) (λ i. cond (right i) (f i) o.none) (λ i. cond_fine laws (right i) (f i) (ok i)) (states_below n))
        ∙ over_cong o (λ i. o.join (cond (left i) (f i) o.none) (cond (right i) (f i) o.none)) (λ i. cond (pass i) (f i) o.none)
        (λ i. either_passes (left i) (right i) (f i) (ok i) (apart i) ∙ ap (λ b. cond b (f i) o.none) (sym (is i))) (states_below n)

    pub joins_total : (pass : ℕ → Bool) (x : W) → Joins o f pass x → ((i : ℕ) → pass i ≡ true → i < n) → x ≡ join_over o f (filter pass (states_below n))
    joins_total pass x j low = over_passing pass x j low ∙ sym (over_kept laws f ok pass (states_below n))

  -- the lowest state last
  lowest : (f : ℕ → W) → ((i : ℕ) → fine (f i)) → (n : ℕ) → join_over o f (states_below (suc n)) ≡ o.join (join_over o (λ i. f (suc i)) (states_below n)) (f 0)
  unfolding join_over
  lowest f ok zero = laws.join_none _ (ok 0) ∙ sym (none_join laws _ (ok 0))
  lowest f ok (suc n) =
      ap (o.join (f (suc n))) (lowest f ok n)
      ∙ sym (laws.join_assoc _ _ _ (ok (suc n)) (over_fine laws (λ i. f (suc i)) (λ i. ok (suc i)) (states_below n)) (ok 0))

  -- over the places of a list, or over the list
  pub over_places : {A : Type 0} (f : Option A → W) → ((x : Option A) → fine (f x)) → (xs : List A) → join_over o (λ i. f (slice_get xs i)) (states_below (length xs)) ≡ join_over o (λ x. f (Some x)) xs
  unfolding join_over
  over_places f ok [] = refl
  over_places f ok (x ∷ xs) =
      lowest (λ i. f (slice_get (x ∷ xs) i)) (λ i. ok (slice_get (x ∷ xs) i)) (length xs)
      ∙ ap (λ u. o.join u (f (Some x))) (over_places f ok xs)
      ∙ laws.join_comm _ _ (over_fine laws (λ x. f (Some x)) (λ x. ok (Some x)) xs) (ok (Some x))
