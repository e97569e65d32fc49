-- A join over the walks from first states, by the state that they reach, and then by the edge that they take.
use Rattle.std.proofs.Common.{◌≡◌, ℕ, ◌≤◌, cond, eqb, List, sym, ap, ◌∙◌, arith}
use Rattle.paths.specs.declared.edges.Edge.{Edge}
use Rattle.paths.specs.Semirings.{Operations, Semiring}
use Rattle.paths.specs.Trellises.{Meaning, Each}
use Rattle.paths.specs.Paths.{states_below, walks, before, weight, join_over, path_join}
use Rattle.paths.proofs.Inside.{Low, Inside}
use Rattle.paths.proofs.Overs.{over_cong, over_each, over_below, cond_fine, chain_cond, cond_chain, over_cond, chain_over, over_chain, over_swap, over_one}
use Rattle.paths.proofs.Carried.{carried, stops, weight_fine, joins_fine, walks_carried, carried_split, started_over}

module _ {W : Type 0} {fine : W → Type 0} {o : Operations W} (laws : Semiring fine o) where
  -- states apart: f of the state reached, joined over first states
  pub by_state : (states : ℕ) (m : Meaning) → Inside states m → (k : ℕ) → k ≤ m.stages → (f : ℕ → W) → ((v : ℕ) → fine (f v))
      → join_over o (λ s. cond (m.first s) (carried o m.edges f 0 k s) o.none) (states_below states) ≡ join_over o (λ v. o.chain (path_join o (before states m k v)) (f v)) (states_below states)
  by_state states m low k within f ok =
      let g = m.edges in
      let B : ℕ → ℕ → W = λ s v. path_join o (walks g (λ u. eqb u v) 0 k s) in
      let B-fine : (s v : ℕ) → fine (B s v) = λ s v. joins_fine laws (walks g (λ u. eqb u v) 0 k s) in
      let C : ℕ → ℕ → W = λ s v. cond (m.first s) (B s v) o.none in
      let C-fine : (s v : ℕ) → fine (C s v) = λ s v. cond_fine laws (m.first s) (B s v) (B-fine s v) in
      over_below o (λ s. cond (m.first s) (carried o g f 0 k s) o.none) (λ s. join_over o (λ v. o.chain (C s v) (f v)) (states_below states)) states
      (λ s small.
      ap (λ u. cond (m.first s) u o.none)
      (carried_split laws g f ok states m.stages low 0 k s (omega arith) small
      ∙ over_cong o (λ v. o.chain (carried o g (stops o (λ u. eqb u v)) 0 k s) (f v)) (λ v. o.chain (B s v) (f v)) (λ v. ap (λ u. o.chain u (f v)) (sym (walks_carried laws g (λ u. eqb u v) 0 k s))) (states_below states))
      ∙ sym (over_cond laws (m.first s) (λ v. o.chain (B s v) (f v)) (states_below states))
      ∙ over_cong o (λ v. cond (m.first s) (o.chain (B s v) (f v)) o.none) (λ v. o.chain (C s v) (f v)) (λ v. sym (cond_chain laws (m.first s) (f v) (B s v) (ok v))) (states_below states))
      ∙ over_swap laws (λ s v. o.chain (C s v) (f v)) (λ s v. laws.chain_fine _ _ (C-fine s v) (ok v)) (states_below states) (states_below states)
      ∙ over_cong o (λ v. join_over o (λ s. o.chain (C s v) (f v)) (states_below states)) (λ v. o.chain (path_join o (before states m k v)) (f v))
      (λ v. sym (over_chain laws (λ s. C s v) (λ s. C-fine s v) (f v) (ok v) (states_below states)) ∙ ap (λ u. o.chain u (f v)) (sym (started_over laws states m (λ u. eqb u v) k (weight o) (weight_fine laws))))
      (states_below states)

  -- and then by the edge
  pub by_edge : (states : ℕ) (F : ℕ → W) → ((v : ℕ) → fine (F v)) → (X : Edge → W) → ((e : Edge) → fine (X e)) → (es : List Edge) → Each (Low states) es
      → join_over o (λ v. o.chain (F v) (join_over o (λ e. cond (eqb e.from v) (X e) o.none) es)) (states_below states) ≡ join_over o (λ e. o.chain (F e.from) (X e)) es
  by_edge states F F-fine X X-fine es low =
      over_cong o (λ v. o.chain (F v) (join_over o (λ e. cond (eqb e.from v) (X e) o.none) es)) (λ v. join_over o (λ e. cond (eqb e.from v) (o.chain (F v) (X e)) o.none) es)
      (λ v.
      chain_over laws (λ e. cond (eqb e.from v) (X e) o.none) (λ e. cond_fine laws (eqb e.from v) (X e) (X-fine e)) (F v) (F-fine v) es
      ∙ over_cong o (λ e. o.chain (F v) (cond (eqb e.from v) (X e) o.none)) (λ e. cond (eqb e.from v) (o.chain (F v) (X e)) o.none) (λ e. chain_cond laws (eqb e.from v) (F v) (X e) (F-fine v)) es)
      (states_below states)
      ∙ over_swap laws (λ v e. cond (eqb e.from v) (o.chain (F v) (X e)) o.none) (λ v e. cond_fine laws (eqb e.from v) _ (laws.chain_fine _ _ (F-fine v) (X-fine e))) (states_below states) es
      ∙ over_each o (Low states) (λ e. join_over o (λ v. cond (eqb e.from v) (o.chain (F v) (X e)) o.none) (states_below states)) (λ e. o.chain (F e.from) (X e))
      (λ e l. over_one laws (λ v. o.chain (F v) (X e)) (λ v. laws.chain_fine _ _ (F-fine v) (X-fine e)) states e.from l.from_low) es low
