-- The columns before and after a stage, one from another, and that those after are those before of the reversal.
use Rattle.std.proofs.Common.{◌≡◌, ℕ, zero, suc, ◌+◌, ◌-◌, ◌<◌, ◌≤◌, Bool, true, false, cond, eqb, sym, refl, ap, ◌∙◌, ⊎_elim, zero-add, add-one, arith}
use Rattle.std.proofs.lemmas.Bool.{eq-eqb, ne_eqb, cases_eq}
use Rattle.paths.specs.Semirings.{Operations, Semiring}
use Rattle.paths.specs.Trellises.{Meaning, flipped, reversed}
use Rattle.paths.specs.Paths.{states_below, walks, paths, before, after, weight, join_over, path_join}
use Rattle.paths.specs.Metastages.{of_stage}
use Rattle.paths.proofs.Inside.{Low, Inside, each_map}
use Rattle.paths.proofs.Overs.{over_cong, over_each, over_map, cond_fine, chain_cond, over_one}
use Rattle.paths.proofs.Carried.{carried, stops, carried_add, weight_fine, joins_fine, stops_fine, carried_fine, walks_carried, stage_carried, started_over}
use Rattle.paths.proofs.ByEdge.{by_state, by_edge}

eqb_turn : (a b : ℕ) → eqb a b ≡ eqb b a
eqb_turn a b = ⊎_elim (λ e. eq-eqb a b e ∙ sym (eq-eqb b a (sym e))) (λ e. ne_eqb a b e ∙ sym (ne_eqb b a (λ q. e (sym q)))) (cases_eq a b)

cond_swap : {W : Type 0} (a b : Bool) (x y : W) → cond a (cond b x y) y ≡ cond b (cond a x y) y
cond_swap true b x y = refl
cond_swap false b x y = elim b as (λ b. y ≡ cond b y y) [ true ↦ refl | false ↦ refl ]

reversed_inside : (states : ℕ) (m : Meaning) → Inside states m → Inside states (reversed m)
reversed_inside states m low k l =
    each_map (Low states) (Low states) flipped (λ e h. record { from_low = h.to_low; to_low = h.from_low }) (m.edges (m.stages - 1 - k)) (low (m.stages - 1 - k) (omega arith))

module _ {W : Type 0} {fine : W → Type 0} {o : Operations W} (laws : Semiring fine o) where
  pub start_forward : (states : ℕ) (m : Meaning) (s : ℕ) → s < states → path_join o (before states m 0 s) ≡ cond (m.first s) o.unit o.none
  unfolding carried
  start_forward states m s small =
      started_over laws states m (λ v. eqb v s) 0 (weight o) (weight_fine laws)
      ∙ over_cong o (λ v. cond (m.first v) (path_join o (walks m.edges (λ u. eqb u s) 0 0 v)) o.none) (λ v. cond (eqb s v) (cond (m.first v) o.unit o.none) o.none)
      (λ v. ap (λ u. cond (m.first v) u o.none) (walks_carried laws m.edges (λ u. eqb u s) 0 0 v ∙ ap (λ b. cond b o.unit o.none) (eqb_turn v s)) ∙ cond_swap (m.first v) (eqb s v) o.unit o.none)
      (states_below states)
      ∙ over_one laws (λ v. cond (m.first v) o.unit o.none) (λ v. cond_fine laws (m.first v) o.unit laws.unit_fine) states s small

  pub joined_forward : (states : ℕ) (m : Meaning) → Inside states m → (k t : ℕ) → k < m.stages
      → path_join o (before states m (suc k) t) ≡ join_over o (λ s. o.chain (path_join o (before states m k s)) (of_stage o (m.edges k) s t)) (states_below states)
  joined_forward states m low k t within =
      let g = m.edges in
      let f : ℕ → W = carried o g (stops o (λ v. eqb v t)) (0 + k) 1 in
      started_over laws states m (λ v. eqb v t) (suc k) (weight o) (weight_fine laws)
      ∙ over_cong o (λ s. cond (m.first s) (path_join o (walks g (λ u. eqb u t) 0 (suc k) s)) o.none) (λ s. cond (m.first s) (carried o g f 0 k s) o.none)
      (λ s. ap (λ u. cond (m.first s) u o.none)
      (walks_carried laws g (λ u. eqb u t) 0 (suc k) s ∙ ap (λ n. carried o g (stops o (λ v. eqb v t)) 0 n s) (sym (add-one k)) ∙ carried_add o g (stops o (λ v. eqb v t)) 0 k 1 s))
      (states_below states)
      ∙ by_state laws states m low k (omega arith) f (carried_fine laws g (stops o (λ v. eqb v t)) (stops_fine laws (λ v. eqb v t)) (0 + k) 1)
      ∙ over_cong o (λ s. o.chain (path_join o (before states m k s)) (f s)) (λ s. o.chain (path_join o (before states m k s)) (of_stage o (g k) s t))
      (λ s. ap (o.chain (path_join o (before states m k s))) (sym (stage_carried laws g (0 + k) s t) ∙ ap (λ j. of_stage o (g j) s t) (zero-add k))) (states_below states)

  pub step_forward : (states : ℕ) (m : Meaning) → Inside states m → (k t : ℕ) → k < m.stages
      → path_join o (before states m (suc k) t) ≡ join_over o (λ e. cond (eqb e.to t) (o.chain (path_join o (before states m k e.from)) (o.value e.cost)) o.none) (m.edges k)
  step_forward states m low k t within =
      joined_forward states m low k t within
      ∙ by_edge laws states (λ v. path_join o (before states m k v)) (λ v. joins_fine laws (before states m k v)) (λ e. cond (eqb e.to t) (o.value e.cost) o.none) (λ e. cond_fine laws (eqb e.to t) _ (laws.value_fine e.cost)) (m.edges k) (low k within)
      ∙ over_cong o (λ e. o.chain (path_join o (before states m k e.from)) (cond (eqb e.to t) (o.value e.cost) o.none)) (λ e. cond (eqb e.to t) (o.chain (path_join o (before states m k e.from)) (o.value e.cost)) o.none)
      (λ e. chain_cond laws (eqb e.to t) (path_join o (before states m k e.from)) (o.value e.cost) (joins_fine laws (before states m k e.from))) (m.edges k)

  pub start_backward : (m : Meaning) (s : ℕ) → path_join o (after m m.stages s) ≡ cond (m.last s) o.unit o.none
  unfolding carried
  start_backward m s =
      let none_left : m.stages - m.stages ≡ 0 = omega arith in
      ap (λ n. path_join o (walks m.edges m.last m.stages n s)) none_left ∙ walks_carried laws m.edges m.last m.stages 0 s

  pub step_backward : (m : Meaning) (k s : ℕ) → k < m.stages
      → path_join o (after m k s) ≡ join_over o (λ e. cond (eqb e.from s) (o.chain (o.value e.cost) (path_join o (after m (suc k) e.to))) o.none) (m.edges k)
  unfolding carried
  step_backward m k s within =
      let one_more : m.stages - k ≡ suc (m.stages - suc k) = omega arith in
      ap (λ n. path_join o (walks m.edges m.last k n s)) one_more ∙ walks_carried laws m.edges m.last k (suc (m.stages - suc k)) s
      ∙ over_cong o (λ e. cond (eqb e.from s) (o.chain (o.value e.cost) (carried o m.edges (stops o m.last) (suc k) (m.stages - suc k) e.to)) o.none)
      (λ e. cond (eqb e.from s) (o.chain (o.value e.cost) (path_join o (after m (suc k) e.to))) o.none)
      (λ e. ap (λ u. cond (eqb e.from s) (o.chain (o.value e.cost) u) o.none) (sym (walks_carried laws m.edges m.last (suc k) (m.stages - suc k) e.to))) (m.edges k)

  pub at_the_end : (states : ℕ) (m : Meaning) → Inside states m → join_over o (λ t. cond (m.last t) (path_join o (before states m m.stages t)) o.none) (states_below states) ≡ path_join o (paths states m)
  at_the_end states m low =
      over_cong o (λ t. cond (m.last t) (path_join o (before states m m.stages t)) o.none) (λ t. o.chain (path_join o (before states m m.stages t)) (stops o m.last t))
      (λ t. ap (λ u. cond (m.last t) u o.none) (sym (laws.chain_unit _ (joins_fine laws (before states m m.stages t)))) ∙ sym (chain_cond laws (m.last t) (path_join o (before states m m.stages t)) o.unit (joins_fine laws (before states m m.stages t))))
      (states_below states)
      ∙ sym (by_state laws states m low m.stages (omega arith) (stops o m.last) (stops_fine laws m.last))
      ∙ over_cong o (λ s. cond (m.first s) (carried o m.edges (stops o m.last) 0 m.stages s) o.none) (λ s. cond (m.first s) (path_join o (walks m.edges m.last 0 m.stages s)) o.none)
      (λ s. ap (λ u. cond (m.first s) u o.none) (sym (walks_carried laws m.edges m.last 0 m.stages s))) (states_below states)
      ∙ sym (started_over laws states m m.last m.stages (weight o) (weight_fine laws))

  pub turn : (states : ℕ) (m : Meaning) → Inside states m → (n s : ℕ) → n ≤ m.stages → s < states → path_join o (before states (reversed m) n s) ≡ path_join o (after m (m.stages - n) s)
  turn states m low zero s within small =
      let all : m.stages ≡ m.stages - 0 = omega arith in
      start_forward states (reversed m) s small ∙ sym (start_backward m s) ∙ ap (λ k. path_join o (after m k s)) all
  turn states m low (suc n) s within small =
      let k = m.stages - suc n in
      let here : m.stages - 1 - n ≡ k = omega arith in
      let next : m.stages - n ≡ suc k = omega arith in
      step_forward states (reversed m) (reversed_inside states m low) n s (omega arith)
      ∙ over_map o (λ e. cond (eqb e.to s) (o.chain (path_join o (before states (reversed m) n e.from)) (o.value e.cost)) o.none) flipped (m.edges (m.stages - 1 - n))
      ∙ ap (λ j. join_over o (λ e. cond (eqb e.from s) (o.chain (path_join o (before states (reversed m) n e.to)) (o.value e.cost)) o.none) (m.edges j)) here
      ∙ over_each o (Low states) (λ e. cond (eqb e.from s) (o.chain (path_join o (before states (reversed m) n e.to)) (o.value e.cost)) o.none)
      (λ e. cond (eqb e.from s) (o.chain (o.value e.cost) (path_join o (after m (suc k) e.to))) o.none)
      (λ e l. ap (λ u. cond (eqb e.from s) u o.none)
      (laws.chain_comm _ _ (joins_fine laws (before states (reversed m) n e.to)) (laws.value_fine e.cost)
      ∙ ap (o.chain (o.value e.cost)) (turn states m low n e.to (omega arith) l.to_low ∙ ap (λ j. path_join o (after m j e.to)) next)))
      (m.edges k) (low k (omega arith))
      ∙ sym (step_backward m k s (omega arith))
