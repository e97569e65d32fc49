-- A path through a given edge of a lawful trellis costs less than what cannot be.
use Rattle.std.proofs.Common.{◌≡◌, ℕ, zero, suc, ◌+◌, ◌-◌, ◌*◌, ◌<◌, ◌≤◌, Bool, true, cond, eqb, List, [], ◌∷◌, map, filter, sym, refl, ap, ◌∙◌, subst, inl, suc-mul, suc-add, zero-add, arith}
use Rattle.std.proofs.lemmas.Bool.{eq-eqb}
use Rattle.paths.specs.declared.edges.Edge.{Edge}
use Rattle.paths.specs.Trellises.{Meaning, Lawful, Has, Linked}
use Rattle.paths.specs.Paths.{walks, paths, weight, path_join, at_stage}
use Rattle.paths.specs.Least.{least, top}
use Rattle.paths.proofs.Inside.{edge_lawful}
use Rattle.trellises.proofs.OneOf.{One, one_map, one_cond, one_joined, one_state, one_kept, one_least}

-- edges that lead from a first state to one of stage k that passes a test, and from it to a last state
pub record Taken (m : Meaning) (k : ℕ) (test : Edge → Bool) : Type 0 where
  pub start : ℕ
  pub end : ℕ
  pub edge : Edge
  pub starts : m.first start ≡ true
  pub ends : m.last end ≡ true
  pub before : Linked m k 0 start edge.from
  pub here : Has (m.edges k) edge
  pub after : Linked m (m.stages - suc k) (suc k) edge.to end
  pub passes : test edge ≡ true

-- a walk that costs no more than n edges may
abbrev Cheap : ℕ → ℕ → List Edge → Type 0
Cheap ceiling n p = weight least p ≤ n * ceiling

-- and whose edge number j passes a test
abbrev Passing : ℕ → (Edge → Bool) → ℕ → ℕ → List Edge → Type 0
Passing ceiling test j n p = (at_stage j test p ≡ true) × Cheap ceiling n p

dearer : (ceiling n : ℕ) (e : Edge) (p : List Edge) → e.cost ≤ ceiling → Cheap ceiling n p → Cheap ceiling (suc n) (e ∷ p)
unfolding weight
dearer ceiling n e p low h = omega (arith, suc-mul n ceiling)

module _ {states ceiling bits : ℕ} {m : Meaning} (law : Lawful states ceiling bits m) where
  edge_cheap : (k : ℕ) → k < m.stages → (e : Edge) → Has (m.edges k) e → e.cost ≤ ceiling
  edge_cheap k h e has = (edge_lawful law k h has.0 e has.1).cheap

  -- one more edge in front
  lengthened : (P Q : List Edge → Type 0) (k n s : ℕ) (e : Edge) → Has (m.edges k) e → e.from ≡ s → ((p : List Edge) → P p → Q (e ∷ p))
      → One P (walks m.edges m.last (suc k) n e.to) → One Q (walks m.edges m.last k (suc n) s)
  unfolding walks
  lengthened P Q k n s e has from so h =
      one_joined Q (λ e. cond (eqb e.from s) (map (◌∷◌ e) (walks m.edges m.last (suc k) n e.to)) []) (m.edges k) has.0 e has.1
      (one_cond Q (eqb e.from s) (map (◌∷◌ e) (walks m.edges m.last (suc k) n e.to)) (eq-eqb e.from s from)
      (one_map P Q (◌∷◌ e) so (walks m.edges m.last (suc k) n e.to) h))

  behind : (n k s t : ℕ) → k + n ≤ m.stages → m.last t ≡ true → Linked m n k s t → One (Cheap ceiling n) (walks m.edges m.last k n s)
  unfolding walks weight
  behind zero k s t within ends l = one_cond (Cheap ceiling zero) (m.last s) ([] ∷ []) (ap m.last l ∙ ends) (inl (omega arith))
  behind (suc n) k s t within ends l =
      let e = l.0 in
      lengthened (Cheap ceiling n) (Cheap ceiling (suc n)) k n s e l.1 l.2 (λ p. dearer ceiling n e p (edge_cheap k (omega arith) e l.1))
      (behind n (suc k) e.to t (omega arith) ends l.3)

  module _ (test : Edge → Bool) where
    ahead : (a n k j s t : ℕ) → k + a ≡ j → j ≤ m.stages → Linked m a k s t → One (Passing ceiling test 0 n) (walks m.edges m.last j n t)
        → One (Passing ceiling test a (a + n)) (walks m.edges m.last k (a + n) s)
    ahead zero n k j s t e within l h =
        let here : j ≡ k = omega arith in
        let P : ℕ → ℕ → ℕ → Type 0 = λ n k s. One (Passing ceiling test 0 n) (walks m.edges m.last k n s) in
        subst (λ n. P n k s) (sym (zero-add n)) (subst (λ s. P n k s) (sym l) (subst (λ k. P n k t) here h))
    ahead (suc a) n k j s t e within l h =
        let edge = l.0 in
        let rest = ahead a n (suc k) j edge.to t (omega arith) within l.3 h in
        let cheap = edge_cheap k (omega arith) edge l.1 in
        subst (λ n. One (Passing ceiling test (suc a) n) (walks m.edges m.last k n s)) (sym (suc-add a n))
        (lengthened (Passing ceiling test a (a + n)) (Passing ceiling test (suc a) (suc (a + n))) k (a + n) s edge l.1 l.2
        (λ p q. (q.0, dearer ceiling (a + n) edge p cheap q.1)) rest)

    pub taken_cheap : (k : ℕ) → k < m.stages → m.stages * ceiling < top → Taken m k test → path_join least (filter (at_stage k test) (paths states m)) < top
    taken_cheap k low small t =
        let e = t.edge in
        let n = m.stages - suc k in
        let rear = behind n (suc k) e.to t.end (omega arith) t.ends t.after in
        let cheap = edge_cheap k low e t.here in
        let middle : One (Passing ceiling test 0 (suc n)) (walks m.edges m.last k (suc n) e.from) =
        lengthened (Cheap ceiling n) (Passing ceiling test 0 (suc n)) k n e.from e t.here refl (λ p c. (t.passes, dearer ceiling n e p cheap c)) rear in
        let front = ahead k (suc n) 0 k t.start e.from (zero-add k) (omega arith) t.before middle in
        let whole : k + suc n ≡ m.stages = omega arith in
        let walk = subst (λ n. One (Passing ceiling test k n) (walks m.edges m.last 0 n t.start)) whole front in
        let path : One (Passing ceiling test k m.stages) (paths states m) =
        one_state (Passing ceiling test k m.stages) (λ s. cond (m.first s) (walks m.edges m.last 0 m.stages s) []) states t.start
        (law.first_low t.start t.starts)
        (one_cond (Passing ceiling test k m.stages) (m.first t.start) (walks m.edges m.last 0 m.stages t.start) t.starts walk) in
        let kept = one_kept (Cheap ceiling m.stages) (at_stage k test) (paths states m) path in
        omega (arith, one_least (weight least) (m.stages * ceiling) (filter (at_stage k test) (paths states m)) kept)
