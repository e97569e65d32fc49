-- The paths whose edge in one stage passes a test, by what leads to that edge and on from it.
use Rattle.std.proofs.Common.{◌≡◌, ℕ, zero, suc, ◌+◌, ◌-◌, Bool, cond, eqb, List, ◌∷◌, sym, ap, ◌∙◌, add-zero, suc-add, zero-add, arith}
use Rattle.paths.specs.declared.edges.Edge.{Edge}
use Rattle.paths.specs.Semirings.{Operations, Semiring}
use Rattle.paths.specs.Paths.{states_below, walks, paths, before, after, weight, join_over, path_join, at_stage}
use Rattle.paths.specs.Laws.{MarginalsAreJoins}
use Rattle.paths.proofs.Inside.{inside}
use Rattle.paths.proofs.Overs.{over_cong, cond_fine, chain_cond, over_cond, over_fine, chain_over, over_kept}
use Rattle.paths.proofs.Carried.{carried, weight_fine, joins_fine, walks_more, started_over}
use Rattle.paths.proofs.ByEdge.{by_state, by_edge}

-- an edge that passes, and what comes after
abbrev onward : {W : Type 0} → Operations W → (ℕ → List Edge) → (ℕ → Bool) → (Edge → Bool) → ℕ → ℕ → Edge → W
onward o g stop q j r e = cond (q e) (o.chain (o.value e.cost) (path_join o (walks g stop (suc j) r e.to))) o.none

abbrev passing : {W : Type 0} → Operations W → (ℕ → List Edge) → (ℕ → Bool) → (Edge → Bool) → ℕ → ℕ → ℕ → W
passing o g stop q j r u = join_over o (λ e. cond (eqb e.from u) (onward o g stop q j r e) o.none) (g j)

module _ {W : Type 0} {fine : W → Type 0} {o : Operations W} (laws : Semiring fine o) where
  onward_fine : (g : ℕ → List Edge) (stop : ℕ → Bool) (q : Edge → Bool) (j r : ℕ) (e : Edge) → fine (onward o g stop q j r e)
  onward_fine g stop q j r e = cond_fine laws (q e) _ (laws.chain_fine _ _ (laws.value_fine e.cost) (joins_fine laws (walks g stop (suc j) r e.to)))

  passing_fine : (g : ℕ → List Edge) (stop : ℕ → Bool) (q : Edge → Bool) (j r u : ℕ) → fine (passing o g stop q j r u)
  passing_fine g stop q j r u = over_fine laws (λ e. cond (eqb e.from u) (onward o g stop q j r e) o.none) (λ e. cond_fine laws (eqb e.from u) _ (onward_fine g stop q j r e)) (g j)

  test_fine : (q : Edge → Bool) (j : ℕ) (p : List Edge) → fine (cond (at_stage j q p) (weight o p) o.none)
  test_fine q j p = cond_fine laws (at_stage j q p) (weight o p) (weight_fine laws p)

  -- the paths with the test at their j-th edge
  tested : (g : ℕ → List Edge) (stop : ℕ → Bool) (q : Edge → Bool) (r at j k s : ℕ) → k + j ≡ at
      → join_over o (λ p. cond (at_stage j q p) (weight o p) o.none) (walks g stop k (j + suc r) s) ≡ carried o g (passing o g stop q at r) k j s
  unfolding carried weight
  tested g stop q r at zero k s h =
      ap (λ n. join_over o (λ p. cond (at_stage zero q p) (weight o p) o.none) (walks g stop k n s)) (zero-add (suc r))
      ∙ walks_more laws (λ p. cond (at_stage zero q p) (weight o p) o.none) (test_fine q zero) g stop k r s
      ∙ over_cong o
      (λ e. cond (eqb e.from s) (join_over o (λ p. cond (q e) (weight o (e ∷ p)) o.none) (walks g stop (suc k) r e.to)) o.none)
      (λ e. cond (eqb e.from s) (onward o g stop q k r e) o.none)
      (λ e. ap (λ u. cond (eqb e.from s) u o.none)
      (over_cond laws (q e) (λ p. weight o (e ∷ p)) (walks g stop (suc k) r e.to)
      ∙ ap (λ u. cond (q e) u o.none) (sym (chain_over laws (weight o) (weight_fine laws) (o.value e.cost) (laws.value_fine e.cost) (walks g stop (suc k) r e.to)))))
      (g k)
      ∙ ap (λ i. passing o g stop q i r s) (sym (add-zero k) ∙ h)
  tested g stop q r at (suc j) k s h =
      ap (λ n. join_over o (λ p. cond (at_stage (suc j) q p) (weight o p) o.none) (walks g stop k n s)) (suc-add j (suc r))
      ∙ walks_more laws (λ p. cond (at_stage (suc j) q p) (weight o p) o.none) (test_fine q (suc j)) g stop k (j + suc r) s
      ∙ over_cong o
      (λ e. cond (eqb e.from s) (join_over o (λ p. cond (at_stage j q p) (weight o (e ∷ p)) o.none) (walks g stop (suc k) (j + suc r) e.to)) o.none)
      (λ e. cond (eqb e.from s) (o.chain (o.value e.cost) (carried o g (passing o g stop q at r) (suc k) j e.to)) o.none)
      (λ e. ap (λ u. cond (eqb e.from s) u o.none)
      (over_cong o (λ p. cond (at_stage j q p) (weight o (e ∷ p)) o.none) (λ p. o.chain (o.value e.cost) (cond (at_stage j q p) (weight o p) o.none))
      (λ p. sym (chain_cond laws (at_stage j q p) (o.value e.cost) (weight o p) (laws.value_fine e.cost))) (walks g stop (suc k) (j + suc r) e.to)
      ∙ sym (chain_over laws (λ p. cond (at_stage j q p) (weight o p) o.none) (test_fine q j) (o.value e.cost) (laws.value_fine e.cost) (walks g stop (suc k) (j + suc r) e.to))
      ∙ ap (o.chain (o.value e.cost)) (tested g stop q r at j (suc k) e.to (omega arith))))
      (g k)

module _ {W : Type 0} {fine : W → Type 0} {o : Operations W} where
  pub marginals_are_joins : MarginalsAreJoins fine o
  marginals_are_joins laws states ceiling bits m law k within q =
      let low = inside law in
      let g = m.edges in
      let r = m.stages - suc k in
      let long : m.stages ≡ k + suc r = omega arith in
      let F : ℕ → W = λ v. path_join o (before states m k v) in
      let F-fine : (v : ℕ) → fine (F v) = λ v. joins_fine laws (before states m k v) in
      let B : Edge → W = λ e. path_join o (after m (suc k) e.to) in
      let B-fine : (e : Edge) → fine (B e) = λ e. joins_fine laws (after m (suc k) e.to) in
      let Y : Edge → W = λ e. o.chain (o.chain (F e.from) (o.value e.cost)) (B e) in
      let Y-fine : (e : Edge) → fine (Y e) = λ e. laws.chain_fine _ _ (laws.chain_fine _ _ (F-fine e.from) (laws.value_fine e.cost)) (B-fine e) in
      over_kept laws (weight o) (weight_fine laws) (at_stage k q) (paths states m)
      ∙ started_over laws states m m.last m.stages (λ p. cond (at_stage k q p) (weight o p) o.none) (test_fine laws q k)
      ∙ over_cong o (λ s. cond (m.first s) (join_over o (λ p. cond (at_stage k q p) (weight o p) o.none) (walks g m.last 0 m.stages s)) o.none) (λ s. cond (m.first s) (carried o g (passing o g m.last q k r) 0 k s) o.none)
      (λ s. ap (λ u. cond (m.first s) u o.none)
      (ap (λ n. join_over o (λ p. cond (at_stage k q p) (weight o p) o.none) (walks g m.last 0 n s)) long ∙ tested laws g m.last q r k k 0 s (zero-add k)))
      (states_below states)
      ∙ by_state laws states m low k (omega arith) (passing o g m.last q k r) (passing_fine laws g m.last q k r)
      ∙ by_edge laws states F F-fine (onward o g m.last q k r) (onward_fine laws g m.last q k r) (g k) (low k within)
      ∙ over_cong o (λ e. o.chain (F e.from) (onward o g m.last q k r e)) (λ e. cond (q e) (Y e) o.none)
      (λ e. chain_cond laws (q e) (F e.from) (o.chain (o.value e.cost) (B e)) (F-fine e.from)
      ∙ ap (λ u. cond (q e) u o.none) (sym (laws.chain_assoc _ _ _ (F-fine e.from) (laws.value_fine e.cost) (B-fine e))))
      (g k)
      ∙ sym (over_kept laws Y Y-fine q (g k))
