-- Walks whose end is worth something: joins over them by a recursion over the stages, and how it comes apart.
use Rattle.std.proofs.Common.{◌≡◌, ℕ, zero, suc, ◌+◌, ◌<◌, ◌≤◌, Bool, true, false, cond, eqb, List, [], ◌∷◌, map, sym, refl, ap, ◌∙◌, add-zero, add-suc, suc-add, zero-add, arith}
use Rattle.paths.specs.declared.edges.Edge.{Edge}
use Rattle.paths.specs.Semirings.{Operations, Semiring}
use Rattle.paths.specs.Trellises.{Meaning, Each}
use Rattle.paths.specs.Paths.{states_below, walks, started, weight, join_over, path_join}
use Rattle.paths.specs.Metastages.{of_stage}
use Rattle.paths.proofs.Inside.{Low}
use Rattle.paths.proofs.Overs.{over_cong, over_each, over_map, none_chain, unit_chain, cond_fine, chain_cond, cond_chain, over_cond, over_fine, over_joined, chain_over, over_chain, over_swap, over_one}

-- the join over the n stages from k on out of s, f being what the state reached is worth
unfoldable pub carried : {W : Type 0} → Operations W → (ℕ → List Edge) → (ℕ → W) → ℕ → ℕ → ℕ → W
carried o g f k zero s = f s
carried o g f k (suc n) s = join_over o (λ e. cond (eqb e.from s) (o.chain (o.value e.cost) (carried o g f (suc k) n e.to)) o.none) (g k)

-- a state where one may stop
abbrev pub stops : {W : Type 0} → Operations W → (ℕ → Bool) → ℕ → W
stops o stop v = cond (stop v) o.unit o.none

-- n stages are a, and then b
pub carried_add : {W : Type 0} (o : Operations W) (g : ℕ → List Edge) (f : ℕ → W) (k a b s : ℕ) → carried o g f k (a + b) s ≡ carried o g (carried o g f (k + a) b) k a s
unfolding carried
carried_add o g f k zero b s = ap (λ n. carried o g f k n s) (zero-add b) ∙ ap (λ j. carried o g f j b s) (sym (add-zero k))
carried_add o g f k (suc a) b s =
    ap (λ n. carried o g f k n s) (suc-add a b)
    ∙ over_cong o
    (λ e. cond (eqb e.from s) (o.chain (o.value e.cost) (carried o g f (suc k) (a + b) e.to)) o.none)
    (λ e. cond (eqb e.from s) (o.chain (o.value e.cost) (carried o g (carried o g f (k + suc a) b) (suc k) a e.to)) o.none)
    (λ e. ap (λ u. cond (eqb e.from s) (o.chain (o.value e.cost) u) o.none)
    (carried_add o g f (suc k) a b e.to ∙ ap (λ j. carried o g (carried o g f j b) (suc k) a e.to) (suc-add k a ∙ sym (add-suc k a)))) (g k)

pub carried_cong : {W : Type 0} (o : Operations W) (g : ℕ → List Edge) (f h : ℕ → W) → ((v : ℕ) → f v ≡ h v) → (k n s : ℕ) → carried o g f k n s ≡ carried o g h k n s
unfolding carried
carried_cong o g f h q k zero s = q s
carried_cong o g f h q k (suc n) s =
    over_cong o
    (λ e. cond (eqb e.from s) (o.chain (o.value e.cost) (carried o g f (suc k) n e.to)) o.none)
    (λ e. cond (eqb e.from s) (o.chain (o.value e.cost) (carried o g h (suc k) n e.to)) o.none)
    (λ e. ap (λ u. cond (eqb e.from s) (o.chain (o.value e.cost) u) o.none) (carried_cong o g f h q (suc k) n e.to)) (g k)

module _ {W : Type 0} {fine : W → Type 0} {o : Operations W} (laws : Semiring fine o) where
  pub weight_fine : (p : List Edge) → fine (weight o p)
  unfolding weight
  weight_fine [] = laws.unit_fine
  weight_fine (e ∷ es) = laws.chain_fine _ _ (laws.value_fine e.cost) (weight_fine es)

  pub joins_fine : (ps : List (List Edge)) → fine (path_join o ps)
  joins_fine ps = over_fine laws (weight o) weight_fine ps

  pub stops_fine : (stop : ℕ → Bool) (v : ℕ) → fine (stops o stop v)
  stops_fine stop v = cond_fine laws (stop v) o.unit laws.unit_fine

  pub carried_fine : (g : ℕ → List Edge) (f : ℕ → W) → ((v : ℕ) → fine (f v)) → (k n s : ℕ) → fine (carried o g f k n s)
  unfolding carried
  carried_fine g f ok k zero s = ok s
  carried_fine g f ok k (suc n) s =
      over_fine laws (λ e. cond (eqb e.from s) (o.chain (o.value e.cost) (carried o g f (suc k) n e.to)) o.none)
      (λ e. cond_fine laws (eqb e.from s) _ (laws.chain_fine _ _ (laws.value_fine e.cost) (carried_fine g f ok (suc k) n e.to))) (g k)

  -- a join over walks, by their first edge
  pub walks_more : (F : List Edge → W) → ((p : List Edge) → fine (F p)) → (g : ℕ → List Edge) (stop : ℕ → Bool) (k n s : ℕ)
      → join_over o F (walks g stop k (suc n) s) ≡ join_over o (λ e. cond (eqb e.from s) (join_over o (λ p. F (e ∷ p)) (walks g stop (suc k) n e.to)) o.none) (g k)
  unfolding walks join_over
  walks_more F ok g stop k n s =
      over_joined laws F ok (λ e. cond (eqb e.from s) (map (◌∷◌ e) (walks g stop (suc k) n e.to)) []) (g k)
      ∙ over_cong o
      (λ e. join_over o F (cond (eqb e.from s) (map (◌∷◌ e) (walks g stop (suc k) n e.to)) []))
      (λ e. cond (eqb e.from s) (join_over o (λ p. F (e ∷ p)) (walks g stop (suc k) n e.to)) o.none)
      (λ e. elim (eqb e.from s) as (λ b. join_over o F (cond b (map (◌∷◌ e) (walks g stop (suc k) n e.to)) []) ≡ cond b (join_over o (λ p. F (e ∷ p)) (walks g stop (suc k) n e.to)) o.none)
      [ true ↦ over_map o F (◌∷◌ e) (walks g stop (suc k) n e.to) | false ↦ refl ]) (g k)

  -- the recursion is the join over all walks
  pub walks_carried : (g : ℕ → List Edge) (stop : ℕ → Bool) (k n s : ℕ) → path_join o (walks g stop k n s) ≡ carried o g (stops o stop) k n s
  unfolding walks join_over carried weight
  walks_carried g stop k zero s =
      elim (stop s) as (λ b. path_join o (cond b ([] ∷ []) []) ≡ cond b o.unit o.none) [ true ↦ laws.join_none _ laws.unit_fine | false ↦ refl ]
  walks_carried g stop k (suc n) s =
      walks_more (weight o) weight_fine g stop k n s
      ∙ over_cong o
      (λ e. cond (eqb e.from s) (join_over o (λ p. weight o (e ∷ p)) (walks g stop (suc k) n e.to)) o.none)
      (λ e. cond (eqb e.from s) (o.chain (o.value e.cost) (carried o g (stops o stop) (suc k) n e.to)) o.none)
      (λ e. ap (λ u. cond (eqb e.from s) u o.none)
      (sym (chain_over laws (weight o) weight_fine (o.value e.cost) (laws.value_fine e.cost) (walks g stop (suc k) n e.to))
      ∙ ap (o.chain (o.value e.cost)) (walks_carried g stop (suc k) n e.to))) (g k)

  -- the metastage of one stage
  pub stage_carried : (g : ℕ → List Edge) (k s t : ℕ) → of_stage o (g k) s t ≡ carried o g (stops o (λ v. eqb v t)) k 1 s
  unfolding carried
  stage_carried g k s t =
      over_cong o
      (λ e. cond (eqb e.from s) (cond (eqb e.to t) (o.value e.cost) o.none) o.none)
      (λ e. cond (eqb e.from s) (o.chain (o.value e.cost) (cond (eqb e.to t) o.unit o.none)) o.none)
      (λ e. ap (λ u. cond (eqb e.from s) u o.none)
      (ap (λ u. cond (eqb e.to t) u o.none) (sym (laws.chain_unit _ (laws.value_fine e.cost))) ∙ sym (chain_cond laws (eqb e.to t) (o.value e.cost) o.unit (laws.value_fine e.cost))))
      (g k)

  -- what the state reached is worth comes apart by that state
  pub carried_split : (g : ℕ → List Edge) (f : ℕ → W) → ((v : ℕ) → fine (f v)) → (states limit : ℕ) → ((k : ℕ) → k < limit → Each (Low states) (g k)) → (k n s : ℕ) → k + n ≤ limit → s < states
      → carried o g f k n s ≡ join_over o (λ v. o.chain (carried o g (stops o (λ u. eqb u v)) k n s) (f v)) (states_below states)
  unfolding carried
  carried_split g f ok states limit low k zero s within small =
      sym (over_one laws f ok states s small)
      ∙ over_cong o (λ v. cond (eqb s v) (f v) o.none) (λ v. o.chain (cond (eqb s v) o.unit o.none) (f v))
      (λ v. elim (eqb s v) as (λ b. cond b (f v) o.none ≡ o.chain (cond b o.unit o.none) (f v)) [ true ↦ sym (unit_chain laws (f v) (ok v)) | false ↦ sym (none_chain laws (f v) (ok v)) ])
      (states_below states)
  carried_split g f ok states limit low k (suc n) s within small =
      let B : Edge → ℕ → W = λ e v. carried o g (stops o (λ u. eqb u v)) (suc k) n e.to in
      let B-fine : (e : Edge) (v : ℕ) → fine (B e v) = λ e v. carried_fine g (stops o (λ u. eqb u v)) (stops_fine (λ u. eqb u v)) (suc k) n e.to in
      let T : Edge → ℕ → W = λ e v. cond (eqb e.from s) (o.chain (o.value e.cost) (B e v)) o.none in
      let T-fine : (e : Edge) (v : ℕ) → fine (T e v) = λ e v. cond_fine laws (eqb e.from s) _ (laws.chain_fine _ _ (laws.value_fine e.cost) (B-fine e v)) in
      over_each o (Low states)
      (λ e. cond (eqb e.from s) (o.chain (o.value e.cost) (carried o g f (suc k) n e.to)) o.none)
      (λ e. join_over o (λ v. o.chain (T e v) (f v)) (states_below states))
      (λ e l.
      ap (λ u. cond (eqb e.from s) (o.chain (o.value e.cost) u) o.none) (carried_split g f ok states limit low (suc k) n e.to (omega arith) l.to_low)
      ∙ ap (λ u. cond (eqb e.from s) u o.none)
      (chain_over laws (λ v. o.chain (B e v) (f v)) (λ v. laws.chain_fine _ _ (B-fine e v) (ok v)) (o.value e.cost) (laws.value_fine e.cost) (states_below states)
      ∙ over_cong o (λ v. o.chain (o.value e.cost) (o.chain (B e v) (f v))) (λ v. o.chain (o.chain (o.value e.cost) (B e v)) (f v)) (λ v. sym (laws.chain_assoc _ _ _ (laws.value_fine e.cost) (B-fine e v) (ok v))) (states_below states))
      ∙ sym (over_cond laws (eqb e.from s) (λ v. o.chain (o.chain (o.value e.cost) (B e v)) (f v)) (states_below states))
      ∙ over_cong o (λ v. cond (eqb e.from s) (o.chain (o.chain (o.value e.cost) (B e v)) (f v)) o.none) (λ v. o.chain (T e v) (f v)) (λ v. sym (cond_chain laws (eqb e.from s) (f v) (o.chain (o.value e.cost) (B e v)) (ok v))) (states_below states))
      (g k) (low k (omega arith))
      ∙ over_swap laws (λ e v. o.chain (T e v) (f v)) (λ e v. laws.chain_fine _ _ (T-fine e v) (ok v)) (g k) (states_below states)
      ∙ over_cong o (λ v. join_over o (λ e. o.chain (T e v) (f v)) (g k)) (λ v. o.chain (join_over o (λ e. T e v) (g k)) (f v))
      (λ v. sym (over_chain laws (λ e. T e v) (λ e. T-fine e v) (f v) (ok v) (g k))) (states_below states)

  -- a join over the walks out of first states, by that state
  pub started_over : (states : ℕ) (m : Meaning) (stop : ℕ → Bool) (n : ℕ) (F : List Edge → W) → ((p : List Edge) → fine (F p))
      → join_over o F (started states m stop n) ≡ join_over o (λ s. cond (m.first s) (join_over o F (walks m.edges stop 0 n s)) o.none) (states_below states)
  unfolding join_over
  started_over states m stop n F ok =
      over_joined laws F ok (λ s. cond (m.first s) (walks m.edges stop 0 n s) []) (states_below states)
      ∙ over_cong o (λ s. join_over o F (cond (m.first s) (walks m.edges stop 0 n s) [])) (λ s. cond (m.first s) (join_over o F (walks m.edges stop 0 n s)) o.none)
      (λ s. elim (m.first s) as (λ b. join_over o F (cond b (walks m.edges stop 0 n s) []) ≡ cond b (join_over o F (walks m.edges stop 0 n s)) o.none) [ true ↦ refl | false ↦ refl ]) (states_below states)
