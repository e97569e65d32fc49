-- An accepted file is, byte for byte, what the writer writes of what it keeps.
use Rattle.std.proofs.Common.{◌≡◌, ℕ, zero, suc, ◌+◌, ◌-◌, ◌*◌, ◌/◌, ◌%◌, ◌<◌, ◌≤◌, Bool, true, false, cond, eqb, leb, ◌⊎◌, List, [], ◌∷◌, ◌++◌, length, get_or, take, drop, Some, None, Option, sym, refl, ap, ◌∙◌, subst, inl, inr, ⊎_elim, add-zero, add-mul, one-mul, zero-add, zero-mul, arith, length-drop, take-append-drop, drop-cons}
use Rattle.std.specs.List.{range_with_len, flat_map}
use Rattle.std.proofs.lemmas.List.{take_all, append-nil, drop-drop, drop_all}
use Rattle.std.proofs.lemmas.Bool.{eqb-true, eq-eqb, ne_eqb, leb-true, and_parts, and_from, or_cases}
use Rattle.plans.specs.declared.values.PlanValues.{PlanValues}
use Rattle.plans.specs.declared.refusals.Refusal.{Refusal}
use Rattle.plans.specs.Plans.{symbols, slots, plan_refusal}
use Rattle.cost_file.specs.Records.{packed, record_fault}
use Rattle.cost_file.specs.Files.{plan_body, row, rows_written, payload_written, written, row_at, rows_end, plan_in, refusal_within, at_layer_two, length_fault, plan_record_fault, due_fault, rows_fault, payload_fault, file_fault, rows_in, payload_in, kept_in, payload_fits}
use Rattle.cost_file.specs.Promises.{Accepted}
use Rattle.cost_file.proofs.Questions.{some_none, unless_none, first_none}
use Rattle.cost_file.proofs.Packing.{passes_packed}
use Rattle.cost_file.proofs.Pieces.{length_joined, joined_at, joined_same, pieces, piece_within, length_piece, inner_piece}

-- a record of a file that passes is its body, packed
record_in : (kind number size at : ℕ) (f : List ℕ) → at + (size + 8) ≤ length f → record_fault kind number (take (size + 8) (drop at f)) ≡ None → packed kind number (take size (drop (at + 4) f)) ≡ take (size + 8) (drop at f)
record_in kind number size at f l h =
    let r : List ℕ = take (size + 8) (drop at f) in
    let lr : length r ≡ size + 8 = length_piece (size + 8) at f l in
    let n : length r - 8 ≡ size = omega arith in
    let le : 4 + size ≤ size + 8 = omega arith in
    let body : take (length r - 8) (drop 4 r) ≡ take size (drop (at + 4) f) = ap (λ k. take k (drop 4 r)) n ∙ inner_piece (size + 8) at size 4 f le in
    ap (packed kind number) (sym body) ∙ passes_packed kind number r (omega arith) h

-- rows that pass together pass one by one
rows_each : (v : PlanValues) (f : List ℕ) (k n : ℕ) → rows_fault v f k n ≡ None → (i : ℕ) → i < n → record_fault 2 (k + i + 1) (take (slots v + 8) (drop (row_at v (k + i)) f)) ≡ None
rows_each v f k zero h i l = absurd (omega arith)
rows_each v f k (suc n) h zero l = rw add-zero (first_none _ _ h).0
rows_each v f k (suc n) h (suc i) l =
    let e : k + 1 + i ≡ k + suc i = omega arith in
    subst (λ j. record_fault 2 (j + 1) (take (slots v + 8) (drop (row_at v j) f)) ≡ None) e (rows_each v f (k + 1) n (first_none _ _ h).1 i (omega arith))

-- the body of row i lies within the rows
pub row_within : (v : PlanValues) (i : ℕ) → i < symbols v → row_at v i + (slots v + 8) ≤ rows_end v
row_within v i l = let p = piece_within i (symbols v) (slots v + 8) l in omega arith

body_length : (v : PlanValues) (f : List ℕ) → rows_end v ≤ length f → (i : ℕ) → i < symbols v → length (take (slots v) (drop (row_at v i + 4) f)) ≡ slots v
body_length v f h i l = let p = row_within v i l in length_piece (slots v) (row_at v i + 4) f (omega arith)

pub length_rows_in : (v : PlanValues) (f : List ℕ) → rows_end v ≤ length f → length (rows_in v f 0 (symbols v)) ≡ symbols v * slots v
length_rows_in v f h = length_joined (λ i. take (slots v) (drop (row_at v i + 4) f)) (slots v) 0 (symbols v) (λ i a b. body_length v f h i (omega arith))

-- row i of what a file keeps is the body of its record
pub row_in : (v : PlanValues) (f : List ℕ) → rows_end v ≤ length f → (i : ℕ) → i < symbols v → row v (rows_in v f 0 (symbols v)) i ≡ take (slots v) (drop (row_at v i + 4) f)
row_in v f h i l =
    let body : ℕ → List ℕ = λ j. take (slots v) (drop (row_at v j + 4) f) in
    ap (λ xs. take (slots v) (drop (i * slots v) xs)) (sym (append-nil (flat_map body (range_with_len 0 (symbols v)))))
    ∙ joined_at body (slots v) 0 (symbols v) (λ j a b. body_length v f h j (omega arith)) [] i l ∙ ap body (zero-add i)

-- the rows of an accepted file, written again
rows_again : (v : PlanValues) (f : List ℕ) → rows_end v ≤ length f → rows_fault v f 0 (symbols v) ≡ None → rows_written v (rows_in v f 0 (symbols v)) 0 (symbols v) ≡ take (symbols v * (slots v + 8)) (drop 16 f)
rows_again v f h p =
    let w : ℕ = slots v in
    let n : ℕ = symbols v in
    let one : (i : ℕ) → i < n → packed 2 (i + 1) (row v (rows_in v f 0 n) i) ≡ take (w + 8) (drop (row_at v i) f) = λ i l.
    let q = row_within v i l in
    ap (packed 2 (i + 1)) (row_in v f h i l) ∙ record_in 2 (i + 1) w (row_at v i) f (omega arith) (subst (λ j. record_fault 2 (j + 1) (take (w + 8) (drop (row_at v j) f)) ≡ None) (zero-add i) (rows_each v f 0 n p i l)) in
    let step : (i : ℕ) → row_at v (i + 1) ≡ row_at v i + (w + 8) = λ i. let a = add-mul i 1 (w + 8) in let b = one-mul (w + 8) in omega arith in
    let start : row_at v 0 ≡ 16 = let z = zero-mul (w + 8) in omega arith in
    joined_same (λ i. packed 2 (i + 1) (row v (rows_in v f 0 n) i)) (λ i. take (w + 8) (drop (row_at v i) f)) 0 n (λ i a b. one i (omega arith))
    ∙ pieces (w + 8) (row_at v) step 0 n f ∙ ap (λ k. take (n * (w + 8)) (drop k f)) start

eight : (f : List ℕ) → 12 ≤ length f → take 8 (drop 4 f) ≡ get_or f 4 0 ∷ get_or f 5 0 ∷ get_or f 6 0 ∷ get_or f 7 0 ∷ get_or f 8 0 ∷ get_or f 9 0 ∷ get_or f 10 0 ∷ get_or f 11 0 ∷ []
eight f l =
    rw
    (drop-cons f 4 0 (omega arith), drop-cons f 5 0 (omega arith), drop-cons f 6 0 (omega arith), drop-cons f 7 0 (omega arith), drop-cons f 8 0 (omega arith), drop-cons f 9 0 (omega arith), drop-cons f 10 0 (omega arith), drop-cons f 11 0 (omega arith))
    refl

-- the body of the first record is that of its plan
plan_again : (f : List ℕ) → 12 ≤ length f → get_or f 7 0 ≡ 0 → ((k : ℕ) → get_or f k 0 < 256) → plan_body (plan_in f) ≡ take 8 (drop 4 f)
unfolding plan_in
plan_again f l z small =
    let high : (h k : ℕ) → h < 256 → k < 256 → (256 * h + k) / 256 % 256 ≡ h = λ h k a b. omega arith in
    let low : (h k : ℕ) → h < 256 → k < 256 → (256 * h + k) / 1 % 256 ≡ k = λ h k a b. omega arith in
    let n = high (get_or f 4 0) (get_or f 5 0) (small 4) (small 5) in
    let m = low (get_or f 4 0) (get_or f 5 0) (small 4) (small 5) in
    let a = high (get_or f 8 0) (get_or f 9 0) (small 8) (small 9) in
    let b = low (get_or f 8 0) (get_or f 9 0) (small 8) (small 9) in
    let c = high (get_or f 10 0) (get_or f 11 0) (small 10) (small 11) in
    let d = low (get_or f 10 0) (get_or f 11 0) (small 10) (small 11) in
    rw (eight f l, z, n, m, a, b, c, d) refl

-- the two lengths that a file may have
pub due_lengths : (v : PlanValues) (f : List ℕ) → due_fault v f ≡ None → (length f ≡ rows_end v) ⊎ (length f ≡ rows_end v + v.bytes + 8)
due_lengths v f h =
    ⊎_elim (λ e. inl (eqb-true _ _ e)) (λ e. inr (eqb-true _ _ e)) (or_cases (eqb (length f) (rows_end v)) (eqb (length f) (rows_end v + v.bytes + 8)) (unless_none _ _ h))

-- the end of an accepted file: its payload has its length, and is written as it stands
record EndsAgain (v : PlanValues) (f : List ℕ) : Type 0 where
  fits : payload_fits v.bytes (payload_in v f) ≡ true
  again : payload_written (symbols v + 1) (payload_in v f) ≡ drop (rows_end v) f

ends_again : (v : PlanValues) (f : List ℕ) → (length f ≡ rows_end v) ⊎ (length f ≡ rows_end v + v.bytes + 8) → payload_fault v f ≡ None → EndsAgain v f
ends_again v f (inl e) h =
    let t : eqb (length f) (rows_end v) ≡ true = eq-eqb _ _ e in
    let le : length f ≤ rows_end v = omega arith in
    record { fits = rw t refl; again = rw (t, drop_all (rows_end v) f le) refl }
ends_again v f (inr e) h =
    let t : eqb (length f) (rows_end v) ≡ false = ne_eqb _ _ (λ same. omega arith) in
    let size : ℕ = v.bytes in
    let all : take (size + 8) (drop (rows_end v) f) ≡ drop (rows_end v) f = take_all (size + 8) (drop (rows_end v) f) (simp length-drop (omega arith)) in
    let p : record_fault 3 (symbols v + 1) (take (size + 8) (drop (rows_end v) f)) ≡ None = ap (record_fault 3 (symbols v + 1)) all ∙ (rw t at h) in
    let l : rows_end v + (size + 8) ≤ length f = omega arith in
    let lb : length (take size (drop (rows_end v + 4) f)) ≡ size = length_piece size (rows_end v + 4) f (omega arith) in
    record { fits = rw (t, lb) (eq-eqb size size refl); again = rw t (record_in 3 (symbols v + 1) size (rows_end v) f l p ∙ all) }

layer_none : (o : Option Refusal) → at_layer_two o ≡ None → o ≡ None
layer_none None h = refl
layer_none (Some x) h = absurd (some_none h)

cond_none : (b : Bool) (o : Option Refusal) (x : Refusal) → cond b o (Some x) ≡ None → (b ≡ true) × (o ≡ None)
cond_none true o x h = (refl, h)
cond_none false o x h = absurd (some_none h)

plan_within : (most : ℕ) (v : PlanValues) → at_layer_two (refusal_within most v) ≡ None → (v.bytes ≤ most) × (plan_refusal v ≡ None)
plan_within most v h =
    let e = cond_none (leb v.bytes most) (plan_refusal v) _ (layer_none (refusal_within most v) h) in
    (leb-true v.bytes most e.0, e.1)

-- what no fault says, question by question
pub record Faultless (most : ℕ) (f : List ℕ) : Type 0 where
  pub low : 16 ≤ length f
  pub high : length f ≤ 600000
  pub first : record_fault 1 0 (take 16 f) ≡ None
  pub spare : get_or f 7 0 ≡ 0
  pub within : (plan_in f).bytes ≤ most
  pub plan : plan_refusal (plan_in f) ≡ None
  pub due : (length f ≡ rows_end (plan_in f)) ⊎ (length f ≡ rows_end (plan_in f) + (plan_in f).bytes + 8)
  pub rows : rows_fault (plan_in f) f 0 (symbols (plan_in f)) ≡ None
  pub payload : payload_fault (plan_in f) f ≡ None

pub faultless : (most : ℕ) (f : List ℕ) → file_fault most f ≡ None → Faultless most f
unfolding file_fault
faultless most f h =
    let v : PlanValues = plan_in f in
    let o1 = first_none (length_fault f) _ h in
    let l = and_parts (leb 16 (length f)) (leb (length f) 600000) (unless_none _ _ o1.0) in
    let o2 = first_none (plan_record_fault f) _ o1.1 in
    let r = first_none (record_fault 1 0 (take 16 f)) _ o2.0 in
    let o3 = first_none (at_layer_two (refusal_within most v)) _ o2.1 in
    let q = plan_within most v o3.0 in
    let o4 = first_none (due_fault v f) _ o3.1 in
    let o5 = first_none (rows_fault v f 0 (symbols v)) (payload_fault v f) o4.1 in
    record {
      low = leb-true 16 (length f) l.0;
      high = leb-true (length f) 600000 l.1;
      first = r.0;
      spare = eqb-true (get_or f 7 0) 0 (unless_none _ _ r.1);
      within = q.0;
      plan = q.1;
      due = due_lengths v f o4.0;
      rows = o5.0;
      payload = o5.1;
    }

pub canonical : (most : ℕ) (f : List ℕ) → ((k : ℕ) → get_or f k 0 < 256) → file_fault most f ≡ None → Accepted most f
unfolding kept_in written
canonical most f small h =
    let v : PlanValues = plan_in f in
    let q = faultless most f h in
    let low = q.low in
    let enough : rows_end v ≤ length f = ⊎_elim (λ e. omega arith) (λ e. omega arith) q.due in
    let first : packed 1 0 (plan_body v) ≡ take 16 f = ap (packed 1 0) (plan_again f (omega arith) q.spare small) ∙ record_in 1 0 8 0 f (omega arith) q.first in
    let e = ends_again v f q.due q.payload in
    let rows = rows_again v f enough q.rows in
    let rest : drop (symbols v * (slots v + 8)) (drop 16 f) ≡ drop (rows_end v) f = drop-drop (symbols v * (slots v + 8)) 16 f in
    let body : take (symbols v * (slots v + 8)) (drop 16 f) ++ drop (rows_end v) f ≡ drop 16 f = ap (λ xs. take (symbols v * (slots v + 8)) (drop 16 f) ++ xs) (sym rest) ∙ take-append-drop (symbols v * (slots v + 8)) (drop 16 f) in
    record {
      asked = h;
      proper = record { plan = q.plan; lengths = and_from _ _ (eq-eqb _ _ (length_rows_in v f enough)) e.fits };
      canonical = ap (λ xs. xs ++ (rows_written v (rows_in v f 0 (symbols v)) 0 (symbols v) ++ payload_written (symbols v + 1) (payload_in v f))) first
          ∙ ap (λ xs. take 16 f ++ (xs ++ payload_written (symbols v + 1) (payload_in v f))) rows
          ∙ ap (λ xs. take 16 f ++ (take (symbols v * (slots v + 8)) (drop 16 f) ++ xs)) e.again
          ∙ ap (λ xs. take 16 f ++ xs) body ∙ take-append-drop 16 f;
    }
