-- The candidates of a stage's edges with a bit, joined in whatever order, are the join over all paths with that bit.
use Rattle.std.proofs.Common.{◌≡◌, ℕ, zero, suc, ◌<◌, true, false, cond, List, [], ◌∷◌, length, Some, None, Option, sym, refl, ap, ◌∙◌, arith}
use Rattle.std.specs.List.{slice_get}
use Rattle.std.proofs.lemmas.Bool.{both_ways}
use Rattle.paths.specs.declared.edges.Edge.{Edge}
use Rattle.paths.specs.Semirings.{Operations, Semiring}
use Rattle.paths.specs.Paths.{states_below, before, after, path_join, bit_is}
use Rattle.paths.specs.Columns.{forward, backward}
use Rattle.paths.specs.Joins.{offered, candidate, has_bit, edges_with, BitsAreJoins}
use Rattle.paths.specs.Laws.{between}
use Rattle.paths.proofs.Inside.{Low, inside}
use Rattle.paths.proofs.Overs.{over_each, over_kept, cond_fine}
use Rattle.paths.proofs.Carried.{joins_fine}
use Rattle.paths.proofs.Marginals.{marginals_are_joins}
use Rattle.paths.proofs.Orders.{joins_total, over_places}
use Rattle.paths.proofs.Passes.{columns_are_joins, forward_fine, backward_fine}

-- an edge that has the bit is there
pub edges_with_low : (es : List Edge) (b v i : ℕ) → edges_with es b v i ≡ true → i < length es
edges_with_low [] b v i h = absurd (both_ways false refl h)
edges_with_low (e ∷ es) b v zero h = omega arith
edges_with_low (e ∷ es) b v (suc i) h = let l = edges_with_low es b v i h in omega arith

module _ {W : Type 0} {fine : W → Type 0} {o : Operations W} (laws : Semiring fine o) where
  pub offered_fine : (f b : ℕ → W) → ((s : ℕ) → fine (f s)) → ((s : ℕ) → fine (b s)) → (e : Option Edge) → fine (offered o f b e)
  offered_fine f b ok fit None = laws.none_fine
  offered_fine f b ok fit (Some e) = laws.chain_fine _ _ (laws.chain_fine _ _ (ok e.from) (fit e.to)) (laws.value_fine e.cost)

  -- the value of the edge in the middle or at the end
  last_chained : (x y z : W) → fine x → fine y → fine z → o.chain (o.chain x y) z ≡ o.chain (o.chain x z) y
  last_chained x y z a b c = laws.chain_assoc x y z a b c ∙ ap (o.chain x) (laws.chain_comm y z b c) ∙ sym (laws.chain_assoc x z y a c b)

module _ {W : Type 0} {fine : W → Type 0} {o : Operations W} where
  pub bits_are_joins : BitsAreJoins fine o
  bits_are_joins laws states ceiling bits m law k b v within x joins =
      let es = m.edges k in
      let f = forward o states m k in
      let g = backward o states m (suc k) in
      let f_fine : (s : ℕ) → fine (f s) = forward_fine laws states m k in
      let g_fine : (s : ℕ) → fine (g s) = backward_fine laws states m (suc k) in
      let offer : Option Edge → W = offered o f g in
      let offer_fine : (e : Option Edge) → fine (offer e) = offered_fine laws f g f_fine g_fine in
      let columns = columns_are_joins laws states ceiling bits m law in
      let F : ℕ → W = λ s. path_join o (before states m k s) in
      let B : ℕ → W = λ s. path_join o (after m (suc k) s) in
      joins_total laws (candidate o f g es) (λ i. offer_fine (slice_get es i)) (length es) (edges_with es b v) x joins (edges_with_low es b v)
      ∙ over_kept laws (candidate o f g es) (λ i. offer_fine (slice_get es i)) (edges_with es b v) (states_below (length es))
      ∙ over_places laws (λ e. cond (has_bit b v e) (offer e) o.none) (λ e. cond_fine laws (has_bit b v e) (offer e) (offer_fine e)) es
      ∙ over_each o (Low states) (λ e. cond (bit_is b v e) (offer (Some e)) o.none) (λ e. cond (bit_is b v e) (between o states m k e) o.none)
      (λ e l. ap (λ u. cond (bit_is b v e) u o.none)
      (ap (λ u. o.chain (o.chain u (g e.to)) (o.value e.cost)) (columns.forth k e.from (omega arith) l.from_low)
      ∙ ap (λ u. o.chain (o.chain (F e.from) u) (o.value e.cost)) (columns.back (suc k) e.to within l.to_low)
      ∙ last_chained laws (F e.from) (B e.to) (o.value e.cost) (joins_fine laws (before states m k e.from)) (joins_fine laws (after m (suc k) e.to)) (laws.value_fine e.cost)))
      es (inside law k within)
      ∙ sym (over_kept laws (between o states m k) (λ e. laws.chain_fine _ _ (laws.chain_fine _ _ (joins_fine laws (before states m k e.from)) (laws.value_fine e.cost)) (joins_fine laws (after m (suc k) e.to))) (bit_is b v) es)
      ∙ sym (marginals_are_joins laws states ceiling bits m law k within (bit_is b v))
