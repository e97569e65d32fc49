-- Joins over the edges of a stage that pass a test.
use Rattle.std.proofs.Common.{◌≡◌, ℕ, zero, suc, ◌<◌, Bool, true, false, ◌||◌, List, Some, None, Option, sym, refl, ◌∙◌, subst, arith}
use Rattle.std.specs.List.{slice_get}
use Rattle.std.proofs.lemmas.Bool.{both_ways}
use Rattle.paths.specs.declared.edges.Edge.{Edge}
use Rattle.paths.specs.Semirings.{Operations}
use Rattle.paths.specs.Columns.{join_below}
use Rattle.paths.specs.Joins.{Joins, nothing, single, both}
use Rattle.marginals.specs.Words.{passes, picked}

module _ {W : Type 0} {o : Operations W} where
  -- the same places, by another test
  pub joins_where : (f : ℕ → W) (p q : ℕ → Bool) (x : W) → ((i : ℕ) → p i ≡ q i) → Joins o f p x → Joins o f q x
  joins_where f _ q _ same (nothing p none) = nothing q (λ i. sym (same i) ∙ none i)
  joins_where f _ q _ same (single p i is only) = single q i (sym (same i) ∙ is) (λ j t. only j (same j ∙ t))
  joins_where f _ q _ same (both l r p x y jl jr apart is) = both l r q x y jl jr apart (λ i. sym (same i) ∙ is i)

  -- the same values, by another function
  pub joins_of : (f g : ℕ → W) → ((i : ℕ) → f i ≡ g i) → (p : ℕ → Bool) (x : W) → Joins o f p x → Joins o g p x
  joins_of f g same _ _ (nothing p none) = nothing p none
  joins_of f g same _ _ (single p i is only) = subst (Joins o g p) (sym (same i)) (single p i is only)
  joins_of f g same _ _ (both l r p x y jl jr apart is) = both l r p x y (joins_of f g same l x jl) (joins_of f g same r y jr) apart is

-- a test that no edge passes, and two that agree on the edges there are
passes_none : (test : Edge → Bool) → ((e : Edge) → test e ≡ false) → (e : Option Edge) → passes test e ≡ false
passes_none test never None = refl
passes_none test never (Some e) = never e

passes_same : (t u : Edge → Bool) (e : Option Edge) → ((x : Edge) → e ≡ Some x → t x ≡ u x) → passes t e ≡ passes u e
passes_same t u None same = refl
passes_same t u (Some e) same = same e refl

passes_apart : (t u : Edge → Bool) → ((e : Edge) → t e ≡ true → u e ≡ true → ⊥) → (e : Option Edge) → passes t e ≡ true → passes u e ≡ true → ⊥
passes_apart t u apart None a b = both_ways false refl a
passes_apart t u apart (Some e) a b = apart e a b

passes_either : (t u v : Edge → Bool) → ((e : Edge) → v e ≡ (t e || u e)) → (e : Option Edge) → passes v e ≡ (passes t e || passes u e)
passes_either t u v either None = refl
passes_either t u v either (Some e) = either e

module _ {W : Type 0} {o : Operations W} (f : ℕ → W) (es : List Edge) where
  pub picks_none : (t : Edge → Bool) → ((e : Edge) → t e ≡ false) → Joins o f (picked es t) o.none
  picks_none t never = nothing (picked es t) (λ i. passes_none t never (slice_get es i))

  pub picks_same : (t u : Edge → Bool) (x : W) → ((i : ℕ) (e : Edge) → slice_get es i ≡ Some e → t e ≡ u e) → Joins o f (picked es t) x → Joins o f (picked es u) x
  picks_same t u x same = joins_where f (picked es t) (picked es u) x (λ i. passes_same t u (slice_get es i) (same i))

  -- edges that pass one of two tests, and none both
  pub picks_both : (t u v : Edge → Bool) (x y : W) → ((e : Edge) → t e ≡ true → u e ≡ true → ⊥) → ((e : Edge) → v e ≡ (t e || u e))
      → Joins o f (picked es t) x → Joins o f (picked es u) y → Joins o f (picked es v) (o.join x y)
  picks_both t u v x y apart either l r =
      both (picked es t) (picked es u) (picked es v) x y l r (λ i. passes_apart t u apart (slice_get es i)) (λ i. passes_either t u v either (slice_get es i))

  -- edges that pass one of many tests: u n passes those that pass a test below n
  pub picks_below : (t u : ℕ → Edge → Bool) (g : ℕ → W) → ((e : Edge) → u 0 e ≡ false) → ((n : ℕ) (e : Edge) → u (suc n) e ≡ (u n e || t n e)) → ((n : ℕ) (e : Edge) → u n e ≡ true → t n e ≡ true → ⊥)
      → (n : ℕ) → ((x : ℕ) → x < n → Joins o f (picked es (t x)) (g x)) → Joins o f (picked es (u n)) (join_below o n g)
  unfolding join_below
  picks_below t u g none more apart zero each = picks_none (u 0) none
  picks_below t u g none more apart (suc n) each =
      picks_both (u n) (t n) (u (suc n)) _ _ (apart n) (more n) (picks_below t u g none more apart n (λ x h. each x (omega arith))) (each n (omega arith))
