-- The records that an opened file hands out lie within it, and are those that it keeps.
use Rattle.std.proofs.Common.{◌≡◌, ℕ, ◌+◌, ◌-◌, ◌<◌, ◌≤◌, true, false, eqb, leb, List, length, take, drop, Some, None, sym, refl, ap, ◌∙◌, subst, ⊎_elim, arith}
use Rattle.std.proofs.lemmas.Bool.{ne_eqb, le-leb}
use Rattle.plans.specs.Plans.{symbols, slots}
use Rattle.plans.specs.declared.values.PlanValues.{PlanValues}
use Rattle.cost_file.specs.Files.{Whole, row, row_at, rows_end, plan_in, kept_in, file_fault}
use Rattle.cost_file.specs.Promises.{part, part_at}
use Rattle.cost_file.proofs.Canonical.{faultless, row_within, row_in}

pub record Inside (f : List ℕ) : Type 0 where
  pub first : 16 ≤ length f
  pub rows : rows_end (plan_in f) ≤ length f
  pub payload : rows_end (plan_in f) < length f → rows_end (plan_in f) + (plan_in f).bytes + 8 ≤ length f

pub inside : (f : List ℕ) → file_fault 1021 f ≡ None → Inside f
inside f h =
    let q = faultless 1021 f h in
    record {
      first = q.low;
      rows = ⊎_elim (λ e. omega arith) (λ e. omega arith) q.due;
      payload = λ l. ⊎_elim (λ e. omega arith) (λ e. omega arith) q.due;
    }

-- the body of a row's record lies within the file
pub row_inside : (f : List ℕ) (v : PlanValues) (number n w at : ℕ) → Whole f v → n ≡ symbols v → w ≡ slots v → (number ≡ 0 → ⊥) → number ≤ n → at ≡ row_at v (number - 1) → at + 4 + w ≤ length f
row_inside f v number n w at h en ew z l e =
    let enough : rows_end v ≤ length f = subst (λ u. rows_end u ≤ length f) (sym h.values) (inside f h.accepted).rows in
    let r = row_within v (number - 1) (omega arith) in
    omega arith

-- a row that is handed out is the row that the file keeps
pub row_handed : (f : List ℕ) (v : PlanValues) (bytes : List ℕ) (number n w at : ℕ) → Whole f v → n ≡ symbols v → w ≡ slots v → (number ≡ 0 → ⊥) → number ≤ n → at ≡ row_at v (number - 1) → bytes ≡ take (at + 4 + w - (at + 4)) (drop (at + 4) f) → Some (part 2 (at + 4) bytes) ≡ part_at f number
unfolding kept_in
row_handed f v bytes number n w at h en ew z l e eb =
    let u = plan_in f in
    let i = inside f h.accepted in
    let es : w ≡ slots u = ew ∙ ap slots h.values in
    let en2 : n ≡ symbols u = en ∙ ap symbols h.values in
    let p : at ≡ row_at u (number - 1) = e ∙ ap (λ x. row_at x (number - 1)) h.values in
    let size : at + 4 + w - (at + 4) ≡ slots u = omega arith in
    let body : bytes ≡ row u (kept_in f).rows (number - 1) = eb ∙ ap (λ m. take m (drop (at + 4) f)) size ∙ ap (λ m. take (slots u) (drop (m + 4) f)) p ∙ sym (row_in u f i.rows (number - 1) (omega arith)) in
    let a : eqb number 0 ≡ false = ne_eqb number 0 z in
    let b : leb number (symbols u) ≡ true = le-leb number (symbols u) (omega arith) in
    ap (λ m. Some (part 2 (m + 4) bytes)) p ∙ ap (λ xs. Some (part 2 (row_at u (number - 1) + 4) xs)) body ∙ rw (a, b) refl

-- the body of the payload's record lies within the file
pub payload_inside : (f : List ℕ) (v : PlanValues) (m end : ℕ) → Whole f v → m ≡ v.bytes → end ≡ rows_end v → end < length f → end + 4 + m ≤ length f
payload_inside f v m end h em e l =
    let p : end ≡ rows_end (plan_in f) = e ∙ ap rows_end h.values in
    let q : m ≡ (plan_in f).bytes = em ∙ ap (λ u. u.bytes) h.values in
    let r = (inside f h.accepted).payload (omega arith) in
    omega arith
