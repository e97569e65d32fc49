-- How many boundaries are open, and that none is left once each was closed.
use Rattle.std.proofs.Common.{◌≡◌, ℕ, zero, suc, ◌+◌, ◌-◌, ◌<◌, ◌≤◌, Bool, true, false, ltb, ◌≢◌, List, refl, ap, ◌∙◌, ⊎_elim, arith}
use Rattle.std.proofs.lemmas.Bool.{cases_eq, lt-ltb, ltb-false, cases_Bool}
use Rattle.passes.specs.declared.orders.Span.{Span}
use Rattle.passes.specs.Orders.{ends_at}
use Rattle.passes.proofs.Blocks.{Blocks}

abbrev one_if : Bool → ℕ
one_if true = 1
one_if false = 0

-- of the boundaries up to k
unfoldable pub opens : List Span → ℕ → ℕ
opens e zero = 0
opens e (suc k) = opens e k + one_if (ltb 0 (ends_at e (suc k)))

-- one more closed
pub opens_less : (e d : List Span) (j k : ℕ) → 0 < j → ltb 0 (ends_at e j) ≡ true → ltb 0 (ends_at d j) ≡ false
    → ((i : ℕ) → 0 < i → i ≤ k → i ≢ j → ltb 0 (ends_at d i) ≡ ltb 0 (ends_at e i)) → ((k < j) → opens d k ≡ opens e k) × ((j ≤ k) → opens d k + 1 ≡ opens e k)
unfolding opens
opens_less e d j zero some was now same = (λ h. refl, λ h. absurd (omega arith))
opens_less e d j (suc k) some was now same =
    let less = opens_less e d j k some was now (λ i p h u. same i p (omega arith) u) in (
      λ h.
          ap (λ x. x + one_if (ltb 0 (ends_at d (suc k)))) (less.0 (omega arith))
          ∙ ap (λ b. opens e k + one_if b) (same (suc k) (omega arith) (omega arith) (λ q. omega arith)),
      λ h. ⊎_elim
          (λ q.
          let x = less.0 (omega arith) in
          let y : one_if (ltb 0 (ends_at d (suc k))) ≡ 0 = ap (λ i. one_if (ltb 0 (ends_at d i))) q ∙ ap (λ b. one_if b) now in
          let z : one_if (ltb 0 (ends_at e (suc k))) ≡ 1 = ap (λ i. one_if (ltb 0 (ends_at e i))) q ∙ ap (λ b. one_if b) was in
          omega arith)
          (λ q.
          let x = less.1 (omega arith) in
          let y : one_if (ltb 0 (ends_at d (suc k))) ≡ one_if (ltb 0 (ends_at e (suc k))) = ap (λ b. one_if b) (same (suc k) (omega arith) (omega arith) q) in
          omega arith)
          (cases_eq (suc k) j),
    )

pub opens_all : (e : List Span) (k : ℕ) → ((i : ℕ) → 0 < i → i ≤ k → 0 < ends_at e i) → opens e k ≡ k
unfolding opens
opens_all e zero all = refl
opens_all e (suc k) all =
    let x = opens_all e k (λ i p h. all i p (omega arith)) in
    let y : one_if (ltb 0 (ends_at e (suc k))) ≡ 1 = ap (λ b. one_if b) (lt-ltb 0 (ends_at e (suc k)) (all (suc k) (omega arith) (omega arith))) in
    omega arith

pub opens_none : (e : List Span) (k : ℕ) → opens e k ≡ 0 → (i : ℕ) → 0 < i → i ≤ k → ends_at e i ≡ 0
unfolding opens
opens_none e zero none i p h = absurd (omega arith)
opens_none e (suc k) none i p h =
    ⊎_elim
    (λ q.
    ⊎_elim
    (λ b. let y : one_if (ltb 0 (ends_at e (suc k))) ≡ 1 = ap (λ b. one_if b) b in absurd (omega arith))
    (λ b. let z = ltb-false 0 (ends_at e (suc k)) b in let s = ap (ends_at e) q in omega arith)
    (cases_Bool (ltb 0 (ends_at e (suc k)))))
    (λ q. opens_none e k (omega arith) i p (omega arith))
    (cases_eq i (suc k))

-- then the first block ends behind the last stage
pub one_left : (n : ℕ) (e : List Span) → Blocks n e → opens e (n - 1) ≡ 0 → ends_at e 0 ≡ n
one_left n e sound none =
    let s = sound.some in
    let f = sound.first in
    let i = sound.inside 0 s f in
    ⊎_elim (λ q. q)
    (λ q.
    let z = opens_none e (n - 1) none (ends_at e 0) f (omega arith) in
    let o = sound.next 0 s f (omega arith) in
    absurd (omega arith))
    (cases_eq (ends_at e 0) n)
