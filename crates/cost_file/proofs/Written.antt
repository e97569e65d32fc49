-- What was written reads back to its contents.
use Rattle.std.proofs.Common.{◌≡◌, ℕ, zero, suc, ◌+◌, ◌*◌, ◌/◌, ◌%◌, ◌<◌, ◌≤◌, true, false, ◌&&◌, eqb, leb, List, [], ◌++◌, length, get_or, take, drop, Some, None, Option, sym, refl, ap, ◌∙◌, add-mul, one-mul, zero-add, zero-mul, arith, length-append, take-append-drop}
use Rattle.std.specs.List.{range_with_len, flat_map}
use Rattle.std.proofs.lemmas.List.{take_at, drop_at, take_all, append-nil, drop-drop}
use Rattle.std.proofs.lemmas.Bool.{eqb-true, eq-eqb, ne_eqb, le-leb, and_parts}
use Rattle.plans.specs.declared.values.PlanValues.{PlanValues}
use Rattle.plans.specs.Plans.{symbols, slots, plan_refusal}
use Rattle.cost_file.specs.declared.faults.Fault.{Fault}
use Rattle.plans.specs.Refusals.{unless}
use Rattle.cost_file.specs.Records.{packed, record_fault}
use Rattle.cost_file.specs.Files.{Kept, plan_body, row, rows_written, payload_written, written, row_at, rows_end, plan_in, refusal_within, at_layer_two, length_fault, plan_record_fault, due_fault, rows_fault, payload_fault, later_fault, file_fault, rows_in, payload_in, kept_in, payload_fits}
use Rattle.cost_file.specs.Promises.{Proper, ReadsBack}
use Rattle.cost_file.proofs.Questions.{none_first}
use Rattle.cost_file.proofs.Packing.{length_packed, packed_passes, body_in}
use Rattle.cost_file.proofs.Pieces.{length_joined, joined_at, joined_same, pieces, piece_within, length_piece}
use Rattle.cost_file.proofs.Sizes.{sizes}

-- what a file keeps under a plan that is known
abbrev pub kept_by : PlanValues → List ℕ → Kept
kept_by v f = record { plan = v; rows = rows_in v f 0 (symbols v); payload = payload_in v f }

pub row_length : (v : PlanValues) (rows : List ℕ) → length rows ≡ symbols v * slots v → (i : ℕ) → i < symbols v → length (row v rows i) ≡ slots v
row_length v rows h i l = let w = piece_within i (symbols v) (slots v) l in length_piece (slots v) (i * slots v) rows (omega arith)

record_length : (v : PlanValues) (rows : List ℕ) → length rows ≡ symbols v * slots v → (i : ℕ) → i < symbols v → length (packed 2 (i + 1) (row v rows i)) ≡ slots v + 8
record_length v rows h i l = length_packed 2 (i + 1) (row v rows i) ∙ ap (λ k. k + 8) (row_length v rows h i l)

plan_back : (v : PlanValues) (rest : List ℕ) → v.bytes < 65536 → v.a < 65536 → v.b < 65536 → plan_in (packed 1 0 (plan_body v) ++ rest) ≡ v
unfolding plan_in packed
plan_back v rest n a b =
    let e : (x : ℕ) → x < 65536 → 256 * (x / 256 % 256) + x / 1 % 256 ≡ x = λ x l. omega arith in
    rw (e v.bytes n, e v.a a, e v.b b) refl

spare_zero : (v : PlanValues) (rest : List ℕ) → get_or (packed 1 0 (plan_body v) ++ rest) 7 0 ≡ 0
unfolding packed
spare_zero v rest = refl

-- records that pass one by one pass together
pub rows_pass : (v : PlanValues) (f : List ℕ) (k n : ℕ) → ((i : ℕ) → k ≤ i → i < k + n → record_fault 2 (i + 1) (take (slots v + 8) (drop (row_at v i) f)) ≡ None) → rows_fault v f k n ≡ None
rows_pass v f k zero h = refl
rows_pass v f k (suc n) h =
    none_first _ _ (h k (omega arith) (omega arith)) (rows_pass v f (k + 1) n (λ i a b. h i (omega arith) (omega arith)))

rows_all : (v : PlanValues) (rows : List ℕ) → length rows ≡ symbols v * slots v → flat_map (row v rows) (range_with_len 0 (symbols v)) ≡ rows
rows_all v rows h =
    let w : ℕ = slots v in
    let n : ℕ = symbols v in
    let step : (i : ℕ) → (i + 1) * w ≡ i * w + w = λ i. add-mul i 1 w ∙ ap (λ k. i * w + k) (one-mul w) in
    let le : length rows ≤ n * w = omega arith in
    pieces w (λ i. i * w) step 0 n rows ∙ ap (λ k. take (n * w) (drop k rows)) (zero-mul w) ∙ take_all (n * w) rows le

length_payload : (v : PlanValues) (number : ℕ) (o : Option (List ℕ)) → payload_fits v.bytes o ≡ true → length (payload_written number o) ≤ v.bytes + 8
length_payload v number None h = omega arith
length_payload v number (Some p) h =
    let e = length_packed 3 number p in
    let l = eqb-true (length p) v.bytes h in
    omega arith

-- the payload's record, or that there is none
pub record Ends (v : PlanValues) (f : List ℕ) (o : Option (List ℕ)) : Type 0 where
  pub due : due_fault v f ≡ None
  pub passes : payload_fault v f ≡ None
  pub back : payload_in v f ≡ o

ends : (v : PlanValues) (f : List ℕ) (o : Option (List ℕ)) → payload_fits v.bytes o ≡ true → length f ≡ rows_end v + length (payload_written (symbols v + 1) o) → drop (rows_end v) f ≡ payload_written (symbols v + 1) o → Ends v f o
ends v f None h l d =
    let e : eqb (length f) (rows_end v) ≡ true = eq-eqb _ _ (omega arith) in
    record { due = rw e refl; passes = rw e refl; back = rw e refl }
ends v f (Some p) h l d =
    let e = length_packed 3 (symbols v + 1) p in
    let n = eqb-true (length p) v.bytes h in
    let not_rows : eqb (length f) (rows_end v) ≡ false = ne_eqb _ _ (λ same. omega arith) in
    let whole : eqb (length f) (rows_end v + v.bytes + 8) ≡ true = eq-eqb _ _ (omega arith) in
    let body : take v.bytes (drop (rows_end v + 4) f) ≡ p = ap (take v.bytes) (sym (drop-drop 4 (rows_end v) f) ∙ ap (drop 4) (d ∙ sym (append-nil (packed 3 (symbols v + 1) p)))) ∙ body_in 3 (symbols v + 1) p [] v.bytes n in
    record {
      due = rw (not_rows, whole) refl;
      passes = rw (not_rows, d) (packed_passes 3 (symbols v + 1) p);
      back = rw (not_rows, body) refl;
    }

-- the rows of what was written: each passes, and each is the row that it was written of
pub record RowsStand (v : PlanValues) (f rows : List ℕ) : Type 0 where
  pub passes : rows_fault v f 0 (symbols v) ≡ None
  pub back : rows_in v f 0 (symbols v) ≡ rows

rows_stand : (v : PlanValues) (f rows rest : List ℕ) → length rows ≡ symbols v * slots v → drop 16 f ≡ rows_written v rows 0 (symbols v) ++ rest → RowsStand v f rows
rows_stand v f rows rest h d =
    let w : ℕ = slots v in
    let n : ℕ = symbols v in
    let one : (i : ℕ) → i < n → take (w + 8) (drop (row_at v i) f) ≡ packed 2 (i + 1) (row v rows i) = λ i l.
    ap (take (w + 8)) (sym (drop-drop (i * (w + 8)) 16 f) ∙ ap (drop (i * (w + 8))) d)
    ∙ joined_at (λ j. packed 2 (j + 1) (row v rows j)) (w + 8) 0 n (λ j a b. record_length v rows h j (omega arith)) rest i l
    ∙ ap (λ j. packed 2 (j + 1) (row v rows j)) (zero-add i) in
    let body : (i : ℕ) → i < n → take w (drop (row_at v i + 4) f) ≡ row v rows i = λ i l.
    ap (take w) (sym (drop-drop 4 (row_at v i) f)) ∙ ap (λ xs. take w (drop 4 xs)) (sym (take-append-drop (w + 8) (drop (row_at v i) f)) ∙ ap (λ xs. xs ++ drop (w + 8) (drop (row_at v i) f)) (one i l))
    ∙ body_in 2 (i + 1) (row v rows i) (drop (w + 8) (drop (row_at v i) f)) w (row_length v rows h i l) in
    record {
      passes = rows_pass v f 0 n (λ i a b. let l : i < n = omega arith in rw (one i l) (packed_passes 2 (i + 1) (row v rows i)));
      back = joined_same (λ i. take w (drop (row_at v i + 4) f)) (row v rows) 0 n (λ i a b. body i (omega arith)) ∙ rows_all v rows h;
    }

none_within : (most : ℕ) (v : PlanValues) → v.bytes ≤ most → plan_refusal v ≡ None → at_layer_two (refusal_within most v) ≡ None
none_within most v l h = rw (le-leb v.bytes most l, h) refl

inside : (n : ℕ) (x : Fault) → 16 ≤ n → n ≤ 600000 → unless (leb 16 n && leb n 600000) x ≡ None
inside n x l h = rw (le-leb 16 n l, le-leb n 600000 h) refl

pub length_written : (c : Kept) → length c.rows ≡ symbols c.plan * slots c.plan → length (written c) ≡ rows_end c.plan + length (payload_written (symbols c.plan + 1) c.payload)
unfolding written
length_written c h =
    let v : PlanValues = c.plan in
    let first = length_packed 1 0 (plan_body v) in
    let rows = length_joined (λ j. packed 2 (j + 1) (row v c.rows j)) (slots v + 8) 0 (symbols v) (λ j a b. record_length v c.rows h j (omega arith)) in
    simp length-append (omega arith)

pub reads_back : (c : Kept) → Proper c → ReadsBack c (written c)
unfolding file_fault kept_in written
reads_back c h =
    let v : PlanValues = c.plan in
    let z = sizes v h.plan in
    let fit = and_parts (eqb (length c.rows) (symbols v * slots v)) (payload_fits v.bytes c.payload) h.lengths in
    let enough = eqb-true (length c.rows) (symbols v * slots v) fit.0 in
    let first : List ℕ = packed 1 0 (plan_body v) in
    let rows : List ℕ = rows_written v c.rows 0 (symbols v) in
    let last : List ℕ = payload_written (symbols v + 1) c.payload in
    let f : List ℕ = first ++ (rows ++ last) in
    let l1 : length first ≡ 16 = length_packed 1 0 (plan_body v) in
    let d16 : drop 16 f ≡ rows ++ last = drop_at first (rows ++ last) 16 l1 in
    let t16 : take 16 f ≡ first = take_at first (rows ++ last) 16 l1 in
    let lr : length rows ≡ symbols v * (slots v + 8) = length_joined (λ j. packed 2 (j + 1) (row v c.rows j)) (slots v + 8) 0 (symbols v) (λ j a b. record_length v c.rows enough j (omega arith)) in
    let dend : drop (rows_end v) f ≡ last = sym (drop-drop (symbols v * (slots v + 8)) 16 f) ∙ ap (drop (symbols v * (slots v + 8))) d16 ∙ drop_at rows last (symbols v * (slots v + 8)) lr in
    let len : length f ≡ rows_end v + length last = length_written c enough in
    let last_small = length_payload v (symbols v + 1) c.payload fit.1 in
    let high = z.file_high in
    let few = z.bytes_high in
    let plan : plan_in f ≡ v = plan_back v (rows ++ last) (omega arith) z.a_small z.b_small in
    let r = rows_stand v f c.rows last enough d16 in
    let e = ends v f c.payload fit.1 len dend in
    let later : later_fault 1021 v f ≡ None = none_first _ _ (none_within 1021 v few h.plan) (none_first _ _ e.due (none_first _ _ r.passes e.passes)) in
    let record_passes : record_fault 1 0 (take 16 f) ≡ None = ap (record_fault 1 0) t16 ∙ packed_passes 1 0 (plan_body v) in
    let spare : eqb (get_or f 7 0) 0 ≡ true = eq-eqb _ _ (spare_zero v (rows ++ last)) in
    let one : plan_record_fault f ≡ None = none_first _ _ record_passes (rw spare refl) in
    let size : length_fault f ≡ None = inside (length f) _ (omega arith) (omega arith) in
    record {
      accepted = none_first _ _ size (none_first _ _ one (ap (λ x. later_fault 1021 x f) plan ∙ later));
      back = ap (λ x. kept_by x f) plan ∙ (let a = r.back in let b = e.back in rw (a, b) refl);
    }
