-- The columns that the passes compute are joins over walks.
use Rattle.std.proofs.Common.{◌≡◌, ℕ, zero, suc, ◌-◌, ◌<◌, ◌≤◌, sym, ap, ◌∙◌, arith}
use Rattle.paths.specs.Semirings.{Operations, Semiring}
use Rattle.paths.specs.Trellises.{Meaning, reversed}
use Rattle.paths.specs.Paths.{before, after, path_join}
use Rattle.paths.specs.Metastages.{of_stage}
use Rattle.paths.specs.Columns.{parallel, forward, backward}
use Rattle.paths.specs.Laws.{ColumnsAreJoins}
use Rattle.paths.proofs.Inside.{Inside, inside}
use Rattle.paths.proofs.Overs.{over_below, cond_fine}
use Rattle.paths.proofs.Gathers.{join_below_is, join_below_fine, parallel_fine, parallel_is}
use Rattle.paths.proofs.Reverses.{reversed_lawful}
use Rattle.paths.proofs.Steps.{start_forward, joined_forward, at_the_end, turn}

module _ {W : Type 0} {fine : W → Type 0} {o : Operations W} (laws : Semiring fine o) where
  pub forward_fine : (states : ℕ) (m : Meaning) (k s : ℕ) → fine (forward o states m k s)
  unfolding forward
  forward_fine states m zero s = cond_fine laws (m.first s) o.unit laws.unit_fine
  forward_fine states m (suc k) t =
      join_below_fine laws states (λ s. o.chain (forward o states m k s) (parallel o (m.edges k) s t)) (λ s. laws.chain_fine _ _ (forward_fine states m k s) (parallel_fine laws (m.edges k) s t))

  pub backward_fine : (states : ℕ) (m : Meaning) (k s : ℕ) → fine (backward o states m k s)
  backward_fine states m k s = forward_fine states (reversed m) (m.stages - k) s

  forward_is : (states : ℕ) (m : Meaning) → Inside states m → (k s : ℕ) → k ≤ m.stages → s < states → forward o states m k s ≡ path_join o (before states m k s)
  unfolding forward
  forward_is states m low zero s within small = sym (start_forward laws states m s small)
  forward_is states m low (suc k) t within small =
      join_below_is laws states (λ s. o.chain (forward o states m k s) (parallel o (m.edges k) s t)) (λ s. laws.chain_fine _ _ (forward_fine states m k s) (parallel_fine laws (m.edges k) s t))
      ∙ over_below o (λ s. o.chain (forward o states m k s) (parallel o (m.edges k) s t)) (λ s. o.chain (path_join o (before states m k s)) (of_stage o (m.edges k) s t)) states
      (λ s little. ap (λ u. o.chain u (parallel o (m.edges k) s t)) (forward_is states m low k s (omega arith) little) ∙ ap (o.chain (path_join o (before states m k s))) (parallel_is laws (m.edges k) s t))
      ∙ sym (joined_forward laws states m low k t within)

module _ {W : Type 0} {fine : W → Type 0} {o : Operations W} where
  pub columns_are_joins : ColumnsAreJoins fine o
  columns_are_joins laws states ceiling bits m law = record {
    stage = λ k s t. parallel_is laws (m.edges k) s t;
    forth = forward_is laws states m (inside law);
    back = λ k s within small.
        let left : m.stages - (m.stages - k) ≡ k = omega arith in
        forward_is laws states (reversed m) (inside (reversed_lawful law)) (m.stages - k) s (omega arith) small
        ∙ turn laws states m (inside law) (m.stages - k) s (omega arith) small
        ∙ ap (λ j. path_join o (after m j s)) left;
    answer = at_the_end laws states m (inside law);
  }
