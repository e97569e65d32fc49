-- One stage of a forward pass over least costs: an edge carries a cost on, and a cost came over an edge.
use Rattle.std.proofs.Common.{◌≡◌, ℕ, suc, ◌+◌, ◌<◌, ◌≤◌, min, ◌&&◌, eqb, refl, ap, ⊎_elim, arith}
use Rattle.std.proofs.lemmas.Bool.{eq-eqb, eqb-true, and_from, and_parts}
use Rattle.paths.specs.declared.edges.Edge.{Edge}
use Rattle.paths.specs.Trellises.{Meaning, Lawful, Has}
use Rattle.paths.specs.Columns.{parallel, forward}
use Rattle.paths.specs.Least.{least, top}
use Rattle.paths.proofs.Inside.{edge_lawful}
use Rattle.modulo.proofs.Gathered.{gathered_low, gathered_one}
use Rattle.modulo.proofs.Below.{below_low, below_one}

module _ (states ceiling bits : ℕ) (m : Meaning) (lawful : Lawful states ceiling bits m) where
  pub step_on : (k : ℕ) (e : Edge) → k < m.stages → Has (m.edges k) e → forward least states m (suc k) e.to ≤ forward least states m k e.from + e.cost
  unfolding forward
  step_on k e within has =
      let s = e.from in
      let t = e.to in
      let a = below_low states (λ v. min (forward least states m k v + parallel least (m.edges k) v t) top) s (edge_lawful lawful k within has.0 e has.1).from_low in
      let b = gathered_low (λ d. eqb d.from s && eqb d.to t) (λ d. min d.cost top) (m.edges k) top e has (and_from (eqb s s) (eqb t t) (eq-eqb s s refl) (eq-eqb t t refl)) in
      omega arith

  pub step_back : (k t : ℕ) → forward least states m (suc k) t < top
      → (e : Edge) × (Has (m.edges k) e) × (e.to ≡ t) × (forward least states m (suc k) t ≡ forward least states m k e.from + e.cost)
  unfolding forward
  step_back k t h =
      let b = below_one states (λ v. min (forward least states m k v + parallel least (m.edges k) v t) top) h in
      let s = b.0 in
      let is = b.2 in
      ⊎_elim
      (λ q. absurd (omega arith))
      (λ q.
      let e = q.0 in
      let both = and_parts (eqb e.from s) (eqb e.to t) q.2 in
      let same : forward least states m k e.from ≡ forward least states m k s = ap (forward least states m k) (eqb-true e.from s both.0) in
      let cost = q.3 in
      (e, q.1, eqb-true e.to t both.1, omega arith))
      (gathered_one (λ d. eqb d.from s && eqb d.to t) (λ d. min d.cost top) (m.edges k) top)
