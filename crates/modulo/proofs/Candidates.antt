-- The candidates of a stage's edges lie in one window, and those modulo 65,536 stand for the least costs.
use Rattle.std.proofs.Common.{◌≡◌, ℕ, suc, ◌+◌, ◌-◌, ◌*◌, ◌%◌, ◌<◌, ◌≤◌, min, ◌⊎◌, Some, None, Option, sym, refl, subst, inl, inr, ⊎_elim, arith}
use Rattle.std.specs.List.{slice_get}
use Rattle.std.proofs.lemmas.Bool.{cases_lt}
use Rattle.paths.specs.declared.edges.Edge.{Edge}
use Rattle.paths.specs.Trellises.{Meaning, Lawful, Has, reversed}
use Rattle.paths.specs.Columns.{forward, backward}
use Rattle.paths.specs.Joins.{offered, candidate}
use Rattle.paths.specs.Least.{least, top}
use Rattle.paths.proofs.Reverses.{reversed_lawful}
use Rattle.paths.proofs.Inside.{edge_lawful}
use Rattle.modulo.specs.Modulo.{modulo, Stands}
use Rattle.modulo.specs.Spread.{Connected, Served}
use Rattle.modulo.proofs.Heights.{high, room}
use Rattle.modulo.proofs.Reversal.{reversed_connected, reversed_served}
use Rattle.modulo.proofs.Windows.{Within, StandsWithin, put_within, still_stands, wider, chain_window, chain_stands, value_within}
use Rattle.modulo.proofs.Stand.{base, in_column, cheap, forward_stands}

some_or_none : (o : Option Edge) → (o ≡ None) ⊎ ((e : Edge) × (o ≡ Some e))
some_or_none None = inl refl
some_or_none (Some e) = inr (e, refl)

-- the least candidates of stage k, and those modulo 65,536
abbrev pub least_candidate : ℕ → Meaning → ℕ → ℕ → ℕ
least_candidate states m k i = candidate least (forward least states m k) (backward least states m (suc k)) (m.edges k) i

abbrev pub modulo_candidate : ℕ → Meaning → ℕ → ℕ → ℕ
modulo_candidate states m k i = candidate modulo (forward modulo states m k) (backward modulo states m (suc k)) (m.edges k) i

-- where their window begins
abbrev pub start : ℕ → Meaning → ℕ → ℕ
start states m k = base states m k + base states (reversed m) (m.stages - suc k)

-- a cost to an edge, a cost on from it and its own cost stay far below the top
pub candidate_low : (states ceiling bits : ℕ) (m : Meaning) → Lawful states ceiling bits m → ceiling < 131072 → (k : ℕ) → k < m.stages → (e : Edge) → Has (m.edges k) e
    → forward least states m k e.from < top → backward least states m (suc k) e.to < top
    → forward least states m k e.from + backward least states m (suc k) e.to + e.cost < 2147483648
candidate_low states ceiling bits m lawful low k within e has x y =
    let left = m.stages - suc k in
    let q = room states ceiling bits m lawful low k e.from left e.cost (omega arith) x (edge_lawful lawful k within has.0 e has.1).cheap in
    let l : forward least states (reversed m) left e.to ≤ left * ceiling = high states ceiling bits (reversed m) (reversed_lawful lawful) left e.to (omega arith) y in
    omega arith

-- what holds of no edge and of each edge holds of every candidate
each_candidate : (m : Meaning) (k : ℕ) (P : Option Edge → Type 0) → P None → ((e : Edge) → Has (m.edges k) e → P (Some e)) → (i : ℕ) → P (slice_get (m.edges k) i)
each_candidate m k P none some i = ⊎_elim (λ q. subst P (sym q) none) (λ q. subst P (sym q.1) (some q.0 (i, q.1))) (some_or_none (slice_get (m.edges k) i))

-- so do all candidates
edge_fits : (f b cost : ℕ) → (f < top → b < top → f + b + cost < 2147483648) → Within 0 2147483647 (min (min (f + b) top + min cost top) top)
edge_fits f b cost room =
    let low : f < top → b < top → Within 0 2147483647 (min (min (f + b) top + min cost top) top) = λ x y. let q = room x y in inr (omega arith, omega arith, omega arith) in
    ⊎_elim (λ x. ⊎_elim (low x) (λ y. inl (omega arith)) (cases_lt b top)) (λ x. inl (omega arith)) (cases_lt f top)

pub candidate_fits : (states ceiling bits : ℕ) (m : Meaning) → Lawful states ceiling bits m → ceiling < 131072 → (k : ℕ) → k < m.stages
    → (i : ℕ) → Within 0 2147483647 (least_candidate states m k i)
candidate_fits states ceiling bits m lawful low k within =
    each_candidate m k
    (λ o. Within 0 2147483647 (offered least (forward least states m k) (backward least states m (suc k)) o))
    (inl refl)
    (λ e has. edge_fits _ _ e.cost (candidate_low states ceiling bits m lawful low k within e has))

module _ (states ceiling bits reach : ℕ) (m : Meaning) (h : Connected states ceiling bits reach m) (k : ℕ) (within : k < m.stages) where
  edge_window : (e : Edge) → Has (m.edges k) e
      → Within (start states m k) ((2 * reach + 1) * ceiling) (offered least (forward least states m k) (backward least states m (suc k)) (Some e))
  edge_window e has =
      let range = edge_lawful h.lawful k within has.0 e has.1 in
      let f = forward least states m k e.from in
      let b = backward least states m (suc k) e.to in
      let left = m.stages - suc k in
      let lo = base states m k in
      let lo' = base states (reversed m) left in
      let d = reach * ceiling in
      let room = candidate_low states ceiling bits m h.lawful h.low_ceiling k within e has in
      let cost : e.cost ≤ ceiling = range.cheap in
      let low = h.low_ceiling in
      let before = in_column states ceiling bits reach m h k e.from (omega arith) range.from_low in
      let after = in_column states ceiling bits reach (reversed m) (reversed_connected states ceiling bits reach m h) left e.to (omega arith) range.to_low in
      let sum = chain_window lo d lo' d f b (λ x y. let q = room x y in omega arith) before after in
      wider (lo + lo' + 0) (d + d + ceiling) (start states m k) ((2 * reach + 1) * ceiling) _ (omega arith) (omega arith)
      (chain_window (lo + lo') (d + d) 0 ceiling (min (f + b) top) (min e.cost top) (λ x y. let q = room (omega arith) (omega arith) in omega arith) sum (inr (omega arith, omega arith, omega arith)))

  pub candidate_window : (i : ℕ) → Within (start states m k) ((2 * reach + 1) * ceiling) (least_candidate states m k i)
  candidate_window =
      each_candidate m k
      (λ o. Within (start states m k) ((2 * reach + 1) * ceiling) (offered least (forward least states m k) (backward least states m (suc k)) o))
      (inl refl) edge_window

module _ (states ceiling bits reach : ℕ) (m : Meaning) (h : Served states ceiling bits reach m) (k : ℕ) (within : k < m.stages) where
  edge_stands : (e : Edge) → Has (m.edges k) e
      → Stands (offered least (forward least states m k) (backward least states m (suc k)) (Some e)) (offered modulo (forward modulo states m k) (backward modulo states m (suc k)) (Some e))
  edge_stands e has =
      let range = edge_lawful h.connected.lawful k within has.0 e has.1 in
      let f = forward least states m k e.from in
      let b = backward least states m (suc k) e.to in
      let f' = forward modulo states m k e.from in
      let b' = backward modulo states m (suc k) e.to in
      let low = cheap states ceiling bits reach m h in
      let room = candidate_low states ceiling bits m h.connected.lawful h.connected.low_ceiling k within e has in
      let before = forward_stands states ceiling bits reach m h k e.from (omega arith) range.from_low in
      let after = forward_stands states ceiling bits reach (reversed m) (reversed_served states ceiling bits reach m h) (m.stages - suc k) e.to (omega arith) range.to_low in
      let value = still_stands 0 ceiling _ _ (value_within ceiling e.cost range.cheap (omega arith)) in
      let sum = chain_stands f f' b b' (λ x y. let q = room x y in omega arith) before after in
      chain_stands (min (f + b) top) (modulo.chain f' b') (min e.cost top) (e.cost % 65536) (λ x y. let q = room (omega arith) (omega arith) in omega arith) sum value

  candidate_stands : (i : ℕ) → Stands (least_candidate states m k i) (modulo_candidate states m k i)
  candidate_stands =
      each_candidate m k
      (λ o. Stands (offered least (forward least states m k) (backward least states m (suc k)) o) (offered modulo (forward modulo states m k) (backward modulo states m (suc k)) o))
      (inl (refl, refl)) edge_stands

  pub candidate_within : (i : ℕ) → StandsWithin (start states m k) ((2 * reach + 1) * ceiling) (least_candidate states m k i) (modulo_candidate states m k i)
  candidate_within i = put_within (start states m k) ((2 * reach + 1) * ceiling) _ _ (candidate_window states ceiling bits reach m h.connected k within i) (candidate_stands i)
