-- The edges of one stage charged by the prior of one bit, and the join over the paths on which the bit has a value.
use Rattle.std.proofs.Common.{◌≡◌, ℕ, suc, ◌+◌, ◌-◌, ◌<◌, ◌≤◌, min, Bool, true, false, cond, eqb, List, map, ℤ, sym, ap, ◌∙◌, ⊎_elim, arith}
use Rattle.std.proofs.lemmas.Bool.{cases_Bool, eqb-true}
use Rattle.paths.specs.declared.edges.Edge.{Edge}
use Rattle.paths.specs.Trellises.{Meaning, Lawful}
use Rattle.paths.specs.Paths.{path_join, join_over, bit_is, paths_with}
use Rattle.paths.specs.Laws.{between}
use Rattle.paths.specs.Least.{least, top}
use Rattle.paths.specs.LeastLaws.{least_laws}
use Rattle.paths.proofs.Overs.{over_cong, over_map, over_chain, over_kept, cond_fine}
use Rattle.paths.proofs.Marginals.{marginals_are_joins}
use Rattle.trellises.specs.Priors.{bit, penalty}
use Rattle.trellises.specs.Bounds.{penalty_low}
use Rattle.extrinsics.proofs.Covering.{walks_same, started_same}

-- an edge that pays for bit b of its word what the prior asks
abbrev pub charged : ℕ → ℤ → Edge → Edge
charged b prior e = record { from = e.from; to = e.to; word = e.word; cost = e.cost + penalty prior (bit e.word b) }

-- the edges of h are those of g, but in stage k each pays for its bit b
pub record Told (k b : ℕ) (prior : ℤ) (g h : ℕ → List Edge) : Type 0 where
  pub here : h k ≡ map (charged b prior) (g k)
  pub elsewhere : (j : ℕ) → (j ≡ k → ⊥) → h j ≡ g j

-- n stages of these edges
abbrev pub trellis : ℕ → (ℕ → Bool) → (ℕ → Bool) → (ℕ → List Edge) → Meaning
trellis n first last g = record { stages = n; edges = g; first = first; last = last }

module _ (states : ℕ) where
  -- the least cost of the paths through an edge of stage k, where bit b of its word is v
  with_test : Meaning → ℕ → ℕ → ℕ → Edge → ℕ
  with_test m k b v e = cond (bit_is b v e) (between least states m k e) top

  with_test_low : (m : Meaning) (k b v : ℕ) (e : Edge) → with_test m k b v e ≤ top
  unfolding with_test
  with_test_low m k b v e = cond_fine least_laws (bit_is b v e) (between least states m k e) (omega arith)

  -- the least cost of the paths with the bit, by the edges of its stage
  by_edges : (ceiling bits : ℕ) (m : Meaning) → Lawful states ceiling bits m → (k b v : ℕ) → k < m.stages
      → path_join least (paths_with states m k b v) ≡ join_over least (with_test m k b v) (m.edges k)
  unfolding with_test
  by_edges ceiling bits m law k b v low =
      marginals_are_joins least_laws states ceiling bits m law k low (bit_is b v)
      ∙ over_kept least_laws (between least states m k) (λ e. omega arith) (bit_is b v) (m.edges k)

  module _ (n : ℕ) (first last : ℕ → Bool) (k b : ℕ) (prior : ℤ) (g h : ℕ → List Edge) (told : Told k b prior g h) where
    -- what leads to an edge and on from it is as it was, so the edge costs its charge more
    dearer : (e : Edge) → between least states (trellis n first last h) k (charged b prior e) ≡ min (between least states (trellis n first last g) k e + penalty prior (bit e.word b)) top
    dearer e =
        let f = ap (path_join least) (started_same h g (λ v. eqb v e.from) first states k (λ j l. told.elsewhere j (λ q. omega arith))) in
        let a = ap (path_join least) (walks_same h g last (n - suc k) (suc k) e.to (λ j l u. told.elsewhere j (λ q. omega arith))) in
        rw (f, a) (omega arith)

    charged_test : (v : ℕ) (e : Edge) → with_test (trellis n first last h) k b v (charged b prior e) ≡ min (with_test (trellis n first last g) k b v e + penalty prior v) top
    unfolding with_test
    charged_test v e =
        ⊎_elim
        (λ (yes : bit_is b v e ≡ true). rw yes (dearer e ∙ ap (λ w. min (between least states (trellis n first last g) k e + penalty prior w) top) (eqb-true (bit e.word b) v yes)))
        (λ (no : bit_is b v e ≡ false). rw no (omega arith))
        (cases_Bool (bit_is b v e))

    -- told the prior, every path with the bit v pays its penalty
    pub told_join : (ceiling bits : ℕ) → Lawful states ceiling bits (trellis n first last g) → Lawful states ceiling bits (trellis n first last h) → (v : ℕ) → k < n
        → path_join least (paths_with states (trellis n first last h) k b v) ≡ min (path_join least (paths_with states (trellis n first last g) k b v) + penalty prior v) top
    told_join ceiling bits law law' v low =
        let mg = trellis n first last g in
        let mh = trellis n first last h in
        let d = penalty prior v in
        let cheap : d ≤ top = omega (arith, penalty_low prior v) in
        by_edges ceiling bits mh law' k b v low
        ∙ ap (join_over least (with_test mh k b v)) told.here
        ∙ over_map least (with_test mh k b v) (charged b prior) (g k)
        ∙ over_cong least (λ e. with_test mh k b v (charged b prior e)) (λ e. min (with_test mg k b v e + d) top) (charged_test v) (g k)
        ∙ sym (over_chain least_laws (with_test mg k b v) (with_test_low mg k b v) d cheap (g k))
        ∙ ap (λ z. min (z + d) top) (sym (by_edges ceiling bits mg law k b v low))
