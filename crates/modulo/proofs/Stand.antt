-- The columns of numbers modulo 65,536 stand for the columns of least costs.
use Rattle.std.proofs.Common.{ℕ, zero, suc, ◌+◌, ◌-◌, ◌*◌, ◌%◌, ◌<◌, ◌≤◌, min, Bool, true, false, cond, ◌&&◌, eqb, List, [], ◌∷◌, refl, inl, inr, ⊎_elim, mul-le-mul_right, arith}
use Rattle.paths.specs.declared.edges.Edge.{Edge}
use Rattle.paths.specs.Trellises.{Meaning, LawfulEdge, Each, reversed}
use Rattle.paths.specs.Columns.{gathered, join_below, parallel, forward}
use Rattle.paths.specs.Least.{least, top}
use Rattle.modulo.specs.Modulo.{modulo, nearer, sum_modulo, Stands}
use Rattle.modulo.specs.Spread.{Connected, Served, ColumnsStand}
use Rattle.modulo.proofs.Heights.{held, room}
use Rattle.modulo.proofs.Spread.{forward_spread}
use Rattle.modulo.proofs.Reversal.{reversed_served}
use Rattle.modulo.proofs.Windows.{Within, StandsWithin, put_within, still_stands, window_of, wider, join_within, chain_window, chain_stands, value_within}
use Rattle.modulo.proofs.Floors.{floor, in_window}

-- joins over edges, and over states, of values within one window
gathered_within : (lo d : ℕ) (test : Edge → Bool) (v v' : Edge → ℕ) (P : Edge → Type 0) → d < 32768
    → ((e : Edge) → P e → StandsWithin lo d (v e) (v' e)) → (es : List Edge) → Each P es → (a a' : ℕ) → StandsWithin lo d a a'
    → StandsWithin lo d (gathered least test v a es) (gathered modulo test v' a' es)
unfolding gathered
gathered_within lo d test v v' P small h [] all a a' k = k
gathered_within lo d test v v' P small h (e ∷ es) all a a' k =
    gathered_within lo d test v v' P small h es all.1 (cond (test e) (min a (v e)) a) (cond (test e) (nearer a' (v' e)) a')
    (elim (test e) as (λ b. StandsWithin lo d (cond b (min a (v e)) a) (cond b (nearer a' (v' e)) a'))
    [ true ↦ join_within lo d a a' (v e) (v' e) small k (h e all.0) | false ↦ k ])

below_within : (lo d : ℕ) (f f' : ℕ → ℕ) → d < 32768 → (n : ℕ) → ((s : ℕ) → s < n → StandsWithin lo d (f s) (f' s))
    → StandsWithin lo d (join_below least n f) (join_below modulo n f')
unfolding join_below
below_within lo d f f' small zero h = inl (refl, refl)
below_within lo d f f' small (suc n) h =
    join_within lo d _ _ (f n) (f' n) small (below_within lo d f f' small n (λ s l. h s (omega arith))) (h n (omega arith))

-- where the window of column k begins
abbrev pub base : ℕ → Meaning → ℕ → ℕ
base states m k = floor states (forward least states m k)

pub in_column : (states ceiling bits reach : ℕ) (m : Meaning) → Connected states ceiling bits reach m
    → (k s : ℕ) → k ≤ m.stages → s < states → Within (base states m k) (reach * ceiling) (forward least states m k s)
in_column states ceiling bits reach m h k s within =
    in_window states (reach * ceiling) (forward least states m k) (held states m k) (λ s t. forward_spread states ceiling bits reach m h k s t within) s

module _ (states ceiling bits reach : ℕ) (m : Meaning) (h : Served states ceiling bits reach m) where
  -- a ceiling below 10,923
  pub cheap : ceiling < 10923
  cheap =
      let a = h.modest in
      let s = h.connected.some_reach in
      let b : 3 * ceiling ≤ (2 * reach + 1) * ceiling = mul-le-mul_right ceiling (omega arith) in
      omega arith

  parallel_within : (k s t : ℕ) → k < m.stages → StandsWithin 0 ceiling (parallel least (m.edges k) s t) (parallel modulo (m.edges k) s t)
  parallel_within k s t within =
      let l = cheap in
      gathered_within 0 ceiling (λ e. eqb e.from s && eqb e.to t) (λ e. min e.cost top) (λ e. e.cost % 65536) (LawfulEdge states ceiling bits) (omega arith)
      (λ e range. value_within ceiling e.cost range.cheap (omega arith))
      (m.edges k) (h.connected.lawful.every k within) top 65536 (inl (refl, refl))

  entry_fits : (k s t : ℕ) → k < m.stages → forward least states m k s < top → parallel least (m.edges k) s t < top
      → forward least states m k s + parallel least (m.edges k) s t < top
  entry_fits k s t within x y =
      let q = room states ceiling bits m h.connected.lawful h.connected.low_ceiling k s (m.stages - suc k) ceiling (omega arith) x (omega arith) in
      ⊎_elim (λ i. absurd (omega arith)) (λ i. omega arith) (parallel_within k s t within)

  -- an entry with the edges behind it
  entry_within : (k s t : ℕ) → k < m.stages → s < states → Stands (forward least states m k s) (forward modulo states m k s)
      → StandsWithin (base states m k) (reach * ceiling + ceiling) (min (forward least states m k s + parallel least (m.edges k) s t) top) (sum_modulo (forward modulo states m k s) (parallel modulo (m.edges k) s t))
  entry_within k s t within low before =
      let lo = base states m k in
      let d = reach * ceiling in
      let x = forward least states m k s in
      let p = parallel least (m.edges k) s t in
      let p_within = parallel_within k s t within in
      let fits = entry_fits k s t within in
      let sum = chain_window lo d 0 ceiling x p fits (in_column states ceiling bits reach m h.connected k s (omega arith) low) (window_of 0 ceiling _ _ p_within) in
      put_within lo (d + ceiling) _ _
      (wider (lo + 0) (d + ceiling) lo (d + ceiling) _ (omega arith) (omega arith) sum)
      (chain_stands x (forward modulo states m k s) p (parallel modulo (m.edges k) s t) fits before (still_stands 0 ceiling _ _ p_within))

  pub forward_stands : (k s : ℕ) → k ≤ m.stages → s < states → Stands (forward least states m k s) (forward modulo states m k s)
  unfolding forward
  forward_stands zero s within low =
      elim (m.first s) as (λ b. Stands (cond b 0 top) (cond b 0 65536)) [ true ↦ inr (omega arith, refl) | false ↦ inl (refl, refl) ]
  forward_stands (suc k) t within low =
      let small = h.modest in
      let lo = base states m k in
      let d = reach * ceiling + ceiling in
      still_stands lo d _ _
      (below_within lo d _ _ (omega arith) states (λ s l. entry_within k s t (omega arith) l (forward_stands k s (omega arith) l)))

pub columns_stand : ColumnsStand
columns_stand states ceiling bits reach m h k s within low = (
  forward_stands states ceiling bits reach m h k s within low,
  forward_stands states ceiling bits reach (reversed m) (reversed_served states ceiling bits reach m h) (m.stages - k) s (omega arith) low,
)
