-- The walks across neighbouring ranges of stages make those across both.
use Rattle.std.proofs.Common.{◌≡◌, ℕ, suc, ◌+◌, ◌-◌, ◌<◌, ◌≤◌, cond, eqb, sym, ap, ◌∙◌, arith}
use Rattle.paths.specs.Semirings.{Operations, Semiring}
use Rattle.paths.specs.Trellises.{Meaning}
use Rattle.paths.specs.Paths.{states_below, walks, paths, across, weight, join_over, path_join}
use Rattle.paths.specs.Metastages.{Matrix, of_stage, first_to_last}
use Rattle.paths.specs.Laws.{ProductsAreJoins}
use Rattle.paths.proofs.Inside.{Inside, inside}
use Rattle.paths.proofs.Overs.{over_below, chain_cond}
use Rattle.paths.proofs.Carried.{carried, stops, carried_add, weight_fine, stops_fine, carried_fine, walks_carried, stage_carried, carried_split, started_over}

module _ {W : Type 0} {fine : W → Type 0} {o : Operations W} (laws : Semiring fine o) (states : ℕ) (m : Meaning) where
  walks_add : Inside states m → (a x y s t : ℕ) → a + x + y ≤ m.stages → s < states → t < states
      → join_over o (λ v. o.chain (path_join o (walks m.edges (λ u. eqb u v) a x s)) (path_join o (walks m.edges (λ u. eqb u t) (a + x) y v))) (states_below states)
      ≡ path_join o (walks m.edges (λ u. eqb u t) a (x + y) s)
  walks_add low a x y s t within small little =
      let g = m.edges in
      let R : ℕ → W = carried o g (stops o (λ u. eqb u t)) (a + x) y in
      over_below o (λ v. o.chain (path_join o (walks g (λ u. eqb u v) a x s)) (path_join o (walks g (λ u. eqb u t) (a + x) y v))) (λ v. o.chain (carried o g (stops o (λ u. eqb u v)) a x s) (R v)) states
      (λ v lt. ap (λ z. o.chain z (path_join o (walks g (λ u. eqb u t) (a + x) y v))) (walks_carried laws g (λ u. eqb u v) a x s)
      ∙ ap (o.chain (carried o g (stops o (λ u. eqb u v)) a x s)) (walks_carried laws g (λ u. eqb u t) (a + x) y v))
      ∙ sym (carried_split laws g R (carried_fine laws g (stops o (λ u. eqb u t)) (stops_fine laws (λ u. eqb u t)) (a + x) y) states m.stages low a x s (omega arith) small)
      ∙ sym (carried_add o g (stops o (λ u. eqb u t)) a x y s)
      ∙ sym (walks_carried laws g (λ u. eqb u t) a (x + y) s)

  -- the metastage of one stage joins the walks across it
  pub stage_across : (k s t : ℕ) → of_stage o (m.edges k) s t ≡ path_join o (across m k (suc k) s t)
  stage_across k s t =
      let one : 1 ≡ suc k - k = omega arith in
      stage_carried laws m.edges k s t ∙ sym (walks_carried laws m.edges (λ u. eqb u t) k 1 s)
      ∙ ap (λ n. path_join o (walks m.edges (λ u. eqb u t) k n s)) one

  -- a row of the metastage of all stages, over last states
  pub row_after : Inside states m → (s : ℕ) → s < states
      → join_over o (λ t. cond (m.last t) (path_join o (across m 0 m.stages s t)) o.none) (states_below states) ≡ path_join o (walks m.edges m.last 0 m.stages s)
  row_after low s small =
      let g = m.edges in
      let n = m.stages in
      let none_before : n - 0 ≡ n = omega arith in
      let E : ℕ → W = λ t. carried o g (stops o (λ v. eqb v t)) 0 n s in
      let E-fine : (t : ℕ) → fine (E t) = λ t. carried_fine laws g (stops o (λ v. eqb v t)) (stops_fine laws (λ v. eqb v t)) 0 n s in
      over_below o (λ t. cond (m.last t) (path_join o (across m 0 n s t)) o.none) (λ t. o.chain (E t) (stops o m.last t)) states
      (λ t little.
      ap (λ u. cond (m.last t) u o.none) (ap (λ z. path_join o (walks g (λ u. eqb u t) 0 z s)) none_before ∙ walks_carried laws g (λ u. eqb u t) 0 n s ∙ sym (laws.chain_unit _ (E-fine t)))
      ∙ sym (chain_cond laws (m.last t) (E t) o.unit (E-fine t)))
      ∙ sym (carried_split laws g (stops o m.last) (stops_fine laws m.last) states n low 0 n s (omega arith) small)
      ∙ sym (walks_carried laws g m.last 0 n s)

  -- a metastage of all stages, from first to last states: all paths
  pub first_to_last_is : Inside states m → (x : Matrix W) → ((s t : ℕ) → s < states → t < states → x s t ≡ path_join o (across m 0 m.stages s t)) → first_to_last o states m x ≡ path_join o (paths states m)
  first_to_last_is low x is =
      over_below o (λ s. cond (m.first s) (join_over o (λ t. cond (m.last t) (x s t) o.none) (states_below states)) o.none)
      (λ s. cond (m.first s) (path_join o (walks m.edges m.last 0 m.stages s)) o.none) states
      (λ s small. ap (λ u. cond (m.first s) u o.none)
      (over_below o (λ t. cond (m.last t) (x s t) o.none) (λ t. cond (m.last t) (path_join o (across m 0 m.stages s t)) o.none) states (λ t little. ap (λ u. cond (m.last t) u o.none) (is s t small little))
      ∙ row_after low s small))
      ∙ sym (started_over laws states m m.last m.stages (weight o) (weight_fine laws))

module _ {W : Type 0} {fine : W → Type 0} {o : Operations W} where
  pub products_are_joins : ProductsAreJoins fine o
  products_are_joins laws states ceiling bits m law a b c h k l s t small little =
      let e : b ≡ a + (b - a) = omega arith in
      let f : b - a + (c - b) ≡ c - a = omega arith in
      over_below o (λ v. o.chain (path_join o (across m a b s v)) (path_join o (across m b c v t))) (λ v. o.chain (path_join o (across m a b s v)) (path_join o (walks m.edges (λ u. eqb u t) (a + (b - a)) (c - b) v))) states
      (λ v lt. ap (λ z. o.chain (path_join o (across m a b s v)) (path_join o (walks m.edges (λ u. eqb u t) z (c - b) v))) e)
      ∙ walks_add laws states m (inside law) a (b - a) (c - b) s t (omega arith) small little
      ∙ ap (λ z. path_join o (walks m.edges (λ u. eqb u t) a z s)) f
