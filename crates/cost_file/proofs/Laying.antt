-- What the writer leaves in its buffer, call by call.
use Rattle.std.proofs.Common.{◌≡◌, ℕ, ◌+◌, ◌-◌, ◌*◌, ◌/◌, ◌%◌, ◌<◌, ◌≤◌, true, cond, eqb, List, [], ◌∷◌, ◌++◌, length, take, drop, is_some, Some, None, Option, sym, refl, ap, ◌∙◌, subst, add-zero, add-mul, one-mul, zero-add, ⊎_elim, mul-le-mul_right, arith, length-append, length-drop, Bor}
use borrow.Rule.Slice.PartMut.{put_mid, post_of}
use Rattle.std.proofs.lemmas.Slice.{take-put_mid, drop-put_mid}
use Rattle.std.proofs.lemmas.List.{drop_all, append_assoc, append-nil, take_at, drop_at, drop-drop}
use Rattle.std.proofs.lemmas.Bool.{and_parts, eqb-true, cases_lt}
use Rattle.plans.specs.declared.values.PlanValues.{PlanValues}
use Rattle.plans.specs.Plans.{symbols, slots}
use Rattle.polynomial.specs.Bytes.{check_of}
use Rattle.cost_file.specs.Records.{bytes_of, head_of, packed}
use Rattle.cost_file.specs.Files.{Kept, plan_body, row, rows_written, payload_written, written, row_at, rows_end, payload_fits, lengths_fit}
use Rattle.cost_file.specs.Promises.{kept, Laid}
use Rattle.cost_file.proofs.Packing.{length_packed}
use Rattle.cost_file.proofs.Pieces.{joined_push}
use Rattle.cost_file.proofs.Written.{row_length, length_written}
use Rattle.cost_file.proofs.Canonical.{row_within}

div_one : (x : ℕ) → x / 1 ≡ x
div_one x = omega arith

-- a number in four bytes, as the code takes it apart
pub four_bytes : (x : ℕ) → bytes_of 4 x ≡ x / 16777216 % 256 ∷ x / 65536 % 256 ∷ x / 256 % 256 ∷ x % 256 ∷ []
four_bytes x = rw (div_one x) refl

-- a record laid in three steps: head, body, and the check of both
pub packs : (part body first second third : List ℕ) (kind number sum : ℕ) → length part ≡ length body + 8
    → first ≡ head_of kind number → second ≡ body → third ≡ bytes_of 4 sum
    → sum ≡ check_of (take (4 + length body) (put_mid 4 (4 + length body - 4) (first ++ post_of 0 4 part) second))
    → put_mid (4 + length body) (4 + length body + 4 - (4 + length body)) (put_mid 4 (4 + length body - 4) (first ++ post_of 0 4 part) second) third ≡ packed kind number body
unfolding packed
packs part body first second third kind number sum long efirst esecond ethird esum =
    let n : ℕ = 4 + length body in
    let was : List ℕ = head_of kind number ++ post_of 0 4 part in
    let x : List ℕ = put_mid 4 (n - 4) was body in
    let le : 4 ≤ length was = omega arith in
    let front : take n x ≡ head_of kind number ++ body = take-put_mid 4 (n - 4) was body n refl le in
    let lx : length x ≤ n + 4 = simp (length-append, length-drop) (omega arith) in
    let none : post_of n (n + 4 - n) x ≡ [] = drop_all _ (drop n x) (simp length-drop (omega arith)) in
    let sealing : sum ≡ check_of (head_of kind number ++ body) = rw (efirst, esecond) at esum ∙ ap check_of front in
    rw (efirst, esecond, ethird, none, front, sealing) refl

-- k rows are laid: what is left of the rows, each of `size` bytes, and the buffer as it was and is
pub record RowsPut (v : PlanValues) (rows : List ℕ) (k size : ℕ) (rest was is : List ℕ) : Type 0 where
  pub width : size ≡ slots v
  pub within : k ≤ symbols v
  pub left : rest ≡ drop (k * slots v) rows
  pub front : take (row_at v k) is ≡ take 16 was ++ rows_written v rows 0 k
  pub tail : drop (rows_end v) is ≡ drop (rows_end v) was

-- the next row is the front of those that are left
pub record FirstRow (v : PlanValues) (rows : List ℕ) (k : ℕ) (x more : List ℕ) : Type 0 where
  pub inside : k < symbols v
  pub is : x ≡ row v rows k
  pub after : more ≡ drop ((k + 1) * slots v) rows

pub first_row : (v : PlanValues) (rows : List ℕ) (k size : ℕ) (rest x more was is : List ℕ) → length rows ≡ symbols v * slots v → 0 < slots v → RowsPut v rows k size rest was is → rest ≡ x ++ more → length x ≡ size → FirstRow v rows k x more
first_row v rows k size rest x more was is lr some h e l =
    let w = slots v in
    let lx : length x ≡ w = l ∙ h.width in
    let n : length rest ≡ length rows - k * w = ap length h.left ∙ length-drop (k * w) rows in
    let m : length rest ≡ length x + length more = ap length e ∙ length-append x more in
    let inside : k < symbols v = ⊎_elim (λ z. z) (λ done. absurd (let p : symbols v * w ≤ k * w = mul-le-mul_right w done in omega arith)) (cases_lt k (symbols v)) in
    let next : (k + 1) * w ≡ k * w + w = add-mul k 1 w ∙ ap (λ y. k * w + y) (one-mul w) in
    record {
      inside = inside;
      is = sym (take_at x more w lx) ∙ ap (take w) (sym e ∙ h.left);
      after = sym (drop_at x more w lx) ∙ ap (drop w) (sym e ∙ h.left) ∙ drop-drop w (k * w) rows ∙ ap (λ y. drop y rows) (sym next);
    }

-- one more row laid behind those before it
pub row_laid : (v : PlanValues) (k size at n : ℕ) (rest x more out rows start y : List ℕ) → length rows ≡ symbols v * slots v → 0 < slots v → RowsPut v rows k size rest start out → rest ≡ x ++ more → length x ≡ size
    → at ≡ row_at v k → n ≡ slots v → rows_end v ≤ length out → y ≡ packed 2 (k + 1) x → RowsPut v rows (k + 1) size more start (put_mid at (at + n + 8 - at) out y)
row_laid v k size at n rest x more out rows start y lr some h e l eat en room ey =
    let one = first_row v rows k size rest x more start out lr some h e l in
    let inside = one.inside in
    let body : y ≡ packed 2 (k + 1) (row v rows k) = ey ∙ ap (packed 2 (k + 1)) one.is in
    let ly : length y ≡ slots v + 8 = ap length body ∙ length_packed 2 (k + 1) (row v rows k) ∙ ap (λ m. m + 8) (row_length v rows lr k inside) in
    let r = row_within v k inside in
    let step : row_at v (k + 1) ≡ at + length y = let a = add-mul k 1 (slots v + 8) in let b = one-mul (slots v + 8) in omega arith in
    let t : take (row_at v (k + 1)) (put_mid at (at + n + 8 - at) out y) ≡ take at out ++ y = take-put_mid at (at + n + 8 - at) out y (row_at v (k + 1)) step (omega arith) in
    let grown : rows_written v rows 0 (k + 1) ≡ rows_written v rows 0 k ++ packed 2 (k + 1) (row v rows k) = joined_push (λ i. packed 2 (i + 1) (row v rows i)) 0 k ∙ ap (λ i. rows_written v rows 0 k ++ packed 2 (i + 1) (row v rows i)) (zero-add k) in
    record {
      width = h.width;
      within = omega arith;
      left = one.after;
      front = t ∙ ap (λ m. take m out ++ y) eat ∙ ap (λ xs. xs ++ y) h.front ∙ append_assoc (take 16 start) (rows_written v rows 0 k) y ∙ ap (λ xs. take 16 start ++ (rows_written v rows 0 k ++ xs)) body ∙ ap (λ xs. take 16 start ++ xs) (sym grown);
      tail = drop-put_mid at (at + n + 8 - at) out y (rows_end v) (omega arith) (omega arith) (omega arith) ∙ h.tail;
    }

-- no whole row is left: all are laid
pub all_put : (v : PlanValues) (rows : List ℕ) (k size : ℕ) (rest was is : List ℕ) → length rows ≡ symbols v * slots v → RowsPut v rows k size rest was is → length rest < size → k ≡ symbols v
all_put v rows k size rest was is lr h short =
    let w = slots v in
    let es = h.width in
    let within = h.within in
    let n : length rest ≡ length rows - k * w = ap length h.left ∙ length-drop (k * w) rows in
    ⊎_elim
    (λ more. absurd (let p : (k + 1) * w ≤ symbols v * w = mul-le-mul_right w (omega arith) in let a = add-mul k 1 w in let o = one-mul w in omega arith))
    (λ done. omega arith)
    (cases_lt k (symbols v))

pub fitting : (c : Kept) → lengths_fit c ≡ true → (length c.rows ≡ symbols c.plan * slots c.plan) × (payload_fits c.plan.bytes c.payload ≡ true)
fitting c h =
    let e = and_parts (eqb (length c.rows) (symbols c.plan * slots c.plan)) (payload_fits c.plan.bytes c.payload) h in
    (eqb-true (length c.rows) (symbols c.plan * slots c.plan) e.0, e.1)

length_last : (v : PlanValues) (o : Option (List ℕ)) → payload_fits v.bytes o ≡ true → rows_end v + length (payload_written (symbols v + 1) o) ≡ cond (is_some o) (rows_end v + v.bytes + 8) (rows_end v)
length_last v None h = add-zero (rows_end v)
length_last v (Some p) h = let e = length_packed 3 (symbols v + 1) p in let l = eqb-true (length p) v.bytes h in omega arith

-- the length of a file whose parts have their lengths
pub file_length : (c : Kept) → lengths_fit c ≡ true → length (written c) ≡ cond (is_some c.payload) (rows_end c.plan + c.plan.bytes + 8) (rows_end c.plan)
file_length c h = let e = fitting c h in length_written c e.0 ∙ length_last c.plan c.payload e.1

-- the plan's record laid at the start of a buffer
pub record Begun (v : PlanValues) (was is : List ℕ) : Type 0 where
  pub front : take 16 is ≡ packed 1 0 (plan_body v)
  pub tail : (n : ℕ) → 16 ≤ n → drop n is ≡ drop n was

pub begun : (v : PlanValues) (out y : List ℕ) → 16 ≤ length out → y ≡ packed 1 0 (plan_body v) → Begun v out (y ++ post_of 0 16 out)
begun v out y room e =
    let l : length y ≡ 16 = ap length e ∙ length_packed 1 0 (plan_body v) in
    record { front = take_at y (post_of 0 16 out) 16 l ∙ e; tail = λ n le. drop-put_mid 0 16 out y n (omega arith) (omega arith) l }

-- a file without a payload
pub laid_rows : (v : PlanValues) (rows out begin is : List ℕ) → length rows ≡ symbols v * slots v → Begun v out begin
    → take (rows_end v) is ≡ take 16 begin ++ rows_written v rows 0 (symbols v) → drop (rows_end v) is ≡ drop (rows_end v) begin
    → Laid (record { plan = v; rows = rows; payload = None }) out is
unfolding written
laid_rows v rows out begin is lr b front tail =
    let c : Kept = record { plan = v; rows = rows; payload = None } in
    let n : length (written c) ≡ rows_end v = length_written c lr ∙ add-zero (rows_end v) in
    let whole : packed 1 0 (plan_body v) ++ rows_written v rows 0 (symbols v) ≡ written c = ap (λ xs. packed 1 0 (plan_body v) ++ xs) (sym (append-nil (rows_written v rows 0 (symbols v)))) in
    record {
      front = ap (λ k. take k is) n ∙ front ∙ ap (λ xs. xs ++ rows_written v rows 0 (symbols v)) b.front ∙ whole;
      tail = ap (λ k. drop k is) n ∙ tail ∙ b.tail (rows_end v) (omega arith) ∙ ap (λ k. drop k out) (sym n);
    }

-- a file with one
pub laid_payload : (v : PlanValues) (rows body out begin is y : List ℕ) (end : ℕ) → length rows ≡ symbols v * slots v → Begun v out begin
    → take (rows_end v) is ≡ take 16 begin ++ rows_written v rows 0 (symbols v) → drop (rows_end v) is ≡ drop (rows_end v) begin
    → end ≡ rows_end v → end + length body + 8 ≤ length is → y ≡ packed 3 (symbols v + 1) body
    → Laid (record { plan = v; rows = rows; payload = Some body }) out (put_mid end (end + length body + 8 - end) is y)
unfolding written
laid_payload v rows body out begin is y end lr b front tail eend room ey =
    let c : Kept = record { plan = v; rows = rows; payload = Some body } in
    let size : ℕ = end + length body + 8 - end in
    let ly : length y ≡ length body + 8 = ap length ey ∙ length_packed 3 (symbols v + 1) body in
    let lp = length_packed 3 (symbols v + 1) body in
    let n : length (written c) ≡ end + length body + 8 = length_written c lr ∙ omega arith in
    let t : take (end + length body + 8) (put_mid end size is y) ≡ take end is ++ y = take-put_mid end size is y (end + length body + 8) (omega arith) (omega arith) in
    let d : drop (end + length body + 8) (put_mid end size is y) ≡ drop (end + length body + 8) is = drop-put_mid end size is y (end + length body + 8) (omega arith) (omega arith) (omega arith) in
    let s : end + length body + 8 ≡ rows_end v + (length body + 8) = omega arith in
    let past : drop (end + length body + 8) is ≡ drop (end + length body + 8) begin = ap (λ k. drop k is) s ∙ sym (drop-drop (length body + 8) (rows_end v) is) ∙ ap (drop (length body + 8)) tail ∙ drop-drop (length body + 8) (rows_end v) begin ∙ ap (λ k. drop k begin) (sym s) in
    record {
      front = ap (λ k. take k (put_mid end size is y)) n ∙ t ∙ ap (λ k. take k is ++ y) eend ∙ ap (λ xs. xs ++ y) (front ∙ ap (λ xs. xs ++ rows_written v rows 0 (symbols v)) b.front)
          ∙ append_assoc (packed 1 0 (plan_body v)) (rows_written v rows 0 (symbols v)) y ∙ ap (λ xs. packed 1 0 (plan_body v) ++ (rows_written v rows 0 (symbols v) ++ xs)) ey;
      tail = ap (λ k. drop k (put_mid end size is y)) n ∙ d ∙ past ∙ b.tail (end + length body + 8) (omega arith) ∙ ap (λ k. drop k out) (sym n);
    }

-- what fits the file fits its parts
pub rows_room : (c : Kept) (n : ℕ) → lengths_fit c ≡ true → length (written c) ≤ n → rows_end c.plan ≤ n
rows_room c n h l = let e = length_written c (fitting c h).0 in omega arith

pub payload_room : (v : PlanValues) (rows : List ℕ) (o : Option (Bor (List ℕ))) (body : Bor (List ℕ)) (n : ℕ) → lengths_fit (kept v rows o) ≡ true → length (written (kept v rows o)) ≤ n → o ≡ Some body → rows_end v + length body.now + 8 ≤ n
payload_room v rows o body n h l e =
    let h' : lengths_fit (kept v rows (Some body)) ≡ true = subst (λ x. lengths_fit (kept v rows x) ≡ true) e h in
    let l' : length (written (kept v rows (Some body))) ≤ n = subst (λ x. length (written (kept v rows x)) ≤ n) e l in
    let m = length_written (kept v rows (Some body)) (fitting (kept v rows (Some body)) h').0 in
    let p = length_packed 3 (symbols v + 1) body.now in
    omega arith
