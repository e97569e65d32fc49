-- What is joined in the order of the running code is the join over the list.
use Rattle.std.proofs.Common.{◌≡◌, ℕ, zero, suc, Bool, true, false, cond, ◌&&◌, eqb, List, [], ◌∷◌, map, filter, sym, refl, ap, ◌∙◌, subst}
use Rattle.paths.specs.declared.edges.Edge.{Edge}
use Rattle.paths.specs.Semirings.{Operations, Semiring}
use Rattle.paths.specs.Trellises.{flipped}
use Rattle.paths.specs.Paths.{states_below, join_over}
use Rattle.paths.specs.Metastages.{of_stage}
use Rattle.paths.specs.Columns.{gathered, parallel, join_below}
use Rattle.paths.proofs.Overs.{over_cong, over_fine, over_kept, none_join}

-- another test that says the same, over other edges
pub gathered_map : {W : Type 0} (o : Operations W) (test other : Edge → Bool) (v : Edge → W) (h : Edge → Edge) → ((e : Edge) → test (h e) ≡ other e) → ((e : Edge) → v (h e) ≡ v e) → (a : W) (es : List Edge)
    → gathered o test v a (map h es) ≡ gathered o other v a es
unfolding gathered
gathered_map o test other v h same worth a [] = refl
gathered_map o test other v h same worth a (e ∷ es) =
    ap (λ b. gathered o test v (cond b (o.join a (v (h e))) a) (map h es)) (same e)
    ∙ ap (λ x. gathered o test v (cond (other e) (o.join a x) a) (map h es)) (worth e)
    ∙ gathered_map o test other v h same worth (cond (other e) (o.join a (v e)) a) es

and_turned : (a b : Bool) → (a && b) ≡ (b && a)
and_turned true true = refl
and_turned true false = refl
and_turned false true = refl
and_turned false false = refl

-- turned edges from t to s are those from s to t
pub flipped_parallel : {W : Type 0} (o : Operations W) (es : List Edge) (s t : ℕ) → parallel o (map flipped es) t s ≡ parallel o es s t
flipped_parallel o es s t =
    gathered_map o (λ e. eqb e.from t && eqb e.to s) (λ e. eqb e.from s && eqb e.to t) (λ e. o.value e.cost) flipped
    (λ e. and_turned (eqb e.to t) (eqb e.from s)) (λ e. refl) o.none es

module _ {W : Type 0} {fine : W → Type 0} {o : Operations W} (laws : Semiring fine o) where
  gathered_from : (test : Edge → Bool) (v : Edge → W) → ((e : Edge) → fine (v e)) → (a : W) → fine a → (es : List Edge)
      → gathered o test v a es ≡ o.join a (join_over o v (filter test es))
  unfolding gathered join_over
  gathered_from test v ok a h [] = sym (laws.join_none a h)
  gathered_from test v ok a h (e ∷ es) =
      elim (test e) as (λ b. gathered o test v (cond b (o.join a (v e)) a) es ≡ o.join a (join_over o v (cond b (e ∷ filter test es) (filter test es)))) [
        | true ↦ gathered_from test v ok (o.join a (v e)) (laws.join_fine _ _ h (ok e)) es ∙ laws.join_assoc _ _ _ h (ok e) (over_fine laws v ok (filter test es))
        | false ↦ gathered_from test v ok a h es
      ]

  -- gathered from none on, it is the join over what is kept
  pub gathered_is : (test : Edge → Bool) (v : Edge → W) → ((e : Edge) → fine (v e)) → (es : List Edge) → gathered o test v o.none es ≡ join_over o v (filter test es)
  gathered_is test v ok es = gathered_from test v ok o.none laws.none_fine es ∙ none_join laws _ (over_fine laws v ok (filter test es))

  pub join_below_is : (n : ℕ) (f : ℕ → W) → ((v : ℕ) → fine (f v)) → join_below o n f ≡ join_over o f (states_below n)
  unfolding join_below join_over
  join_below_is zero f ok = refl
  join_below_is (suc n) f ok =
      ap (λ u. o.join u (f n)) (join_below_is n f ok) ∙ laws.join_comm _ _ (over_fine laws f ok (states_below n)) (ok n)

  pub join_below_fine : (n : ℕ) (f : ℕ → W) → ((v : ℕ) → fine (f v)) → fine (join_below o n f)
  join_below_fine n f ok = subst fine (sym (join_below_is n f ok)) (over_fine laws f ok (states_below n))

  pub parallel_fine : (es : List Edge) (s t : ℕ) → fine (parallel o es s t)
  parallel_fine es s t =
      let test : Edge → Bool = λ e. eqb e.from s && eqb e.to t in
      let v : Edge → W = λ e. o.value e.cost in
      subst fine (sym (gathered_is test v (λ e. laws.value_fine e.cost) es)) (over_fine laws v (λ e. laws.value_fine e.cost) (filter test es))

  both_tests : (a b : Bool) (x : W) → cond (a && b) x o.none ≡ cond a (cond b x o.none) o.none
  both_tests true b x = refl
  both_tests false b x = refl

  -- parallel edges joined first are the metastage of the stage
  pub parallel_is : (es : List Edge) (s t : ℕ) → parallel o es s t ≡ of_stage o es s t
  parallel_is es s t =
      let test : Edge → Bool = λ e. eqb e.from s && eqb e.to t in
      let v : Edge → W = λ e. o.value e.cost in
      gathered_is test v (λ e. laws.value_fine e.cost) es
      ∙ over_kept laws v (λ e. laws.value_fine e.cost) test es
      ∙ over_cong o (λ e. cond (test e) (v e) o.none) (λ e. cond (eqb e.from s) (cond (eqb e.to t) (v e) o.none) o.none) (λ e. both_tests (eqb e.from s) (eqb e.to t) (v e)) es
