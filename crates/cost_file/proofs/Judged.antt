-- How the reader judges one record: the code's tests, and the fault that they stand for.
use Rattle.std.proofs.Common.{◌≡◌, ℕ, suc, ◌+◌, ◌-◌, ◌*◌, ◌<◌, ◌≤◌, Bool, true, false, not, List, [], ◌∷◌, ◌++◌, length, get_or, take, drop, Some, None, sym, refl, ap, ◌∙◌, ⊎_elim, zero-mul, one-mul, add-mul, suc-mul, mul-le-mul_right, length-append, arith, length-drop, length-take, drop-cons}
use Rattle.std.specs.Str.{bytes_eq}
use Rattle.std.proofs.lemmas.List.{take_rest, take_at, drop_at, take-take, drop-take, drop-drop}
use Rattle.std.proofs.lemmas.Bool.{cases_eq}
use Rattle.plans.specs.declared.values.PlanValues.{PlanValues}
use Rattle.plans.specs.Plans.{symbols, slots}
use Rattle.plans.specs.declared.refusals.Refusal.TheVariants.{RecordCheck, RecordHead}
use Rattle.polynomial.specs.Bytes.{check_of}
use Rattle.cost_file.specs.declared.faults.Layer.TheVariants.{File}
use Rattle.cost_file.specs.declared.faults.Fault.{Fault}
use Rattle.cost_file.specs.Files.{row_at, rows_end, rows_fault}
use Rattle.plans.specs.Refusals.{unless, first_of}
use Rattle.cost_file.specs.Records.{bytes_of, head_of, fault, record_fault}
use Rattle.cost_file.proofs.Questions.{same_true}
use Rattle.cost_file.proofs.Pieces.{length_piece}

differs : (xs ys : List ℕ) (b : Bool) → bytes_eq xs ys ≡ b → (length xs ≡ length ys → ⊥) → b ≡ false
differs xs ys false e h = refl
differs xs ys true e h = absurd (h (ap length (same_true xs ys e)))

-- bytes too few for a head have no right check
pub too_short : (kind number : ℕ) (r : List ℕ) → length r < 4 → record_fault kind number r ≡ Some (fault RecordCheck number File)
unfolding record_fault
too_short kind number r l =
    let sum : List ℕ = bytes_of 4 (check_of (take (length r - 4) r)) in
    let short : length (drop (length r - 4) r) < 4 = simp length-drop (omega arith) in
    let e : bytes_eq (drop (length r - 4) r) sum ≡ false = differs (drop (length r - 4) r) sum _ refl (λ same. omega arith) in
    rw e refl

not_not : (b : Bool) → not (not b) ≡ b
not_not true = refl
not_not false = refl

four : (r : List ℕ) → 4 ≤ length r → take 4 r ≡ get_or r 0 0 ∷ get_or r 1 0 ∷ get_or r 2 0 ∷ get_or r 3 0 ∷ []
four r l = rw (drop-cons r 0 0 (omega arith), drop-cons r 1 0 (omega arith), drop-cons r 2 0 (omega arith), drop-cons r 3 0 (omega arith)) refl

-- the two tests of a record that has a head
pub judged : (kind number sum : ℕ) (r four_of head : List ℕ) (unchecked unheaded : Bool) → 4 ≤ length r
    → sum ≡ check_of (take (length (take (length r - 4) (drop 4 r))) r) → four_of ≡ bytes_of 4 sum
    → unchecked ≡ not (bytes_eq (take (length r - length (take (length r - 4) (drop 4 r))) (drop (length (take (length r - 4) (drop 4 r))) r)) four_of)
    → head ≡ head_of kind number → unheaded ≡ not (bytes_eq (get_or r 0 0 ∷ get_or r 1 0 ∷ get_or r 2 0 ∷ get_or r 3 0 ∷ []) head)
    → first_of (unless (not unchecked) (fault RecordCheck number File)) (unless (not unheaded) (fault RecordHead number File)) ≡ record_fault kind number r
unfolding record_fault
judged kind number sum r four_of head unchecked unheaded l esum efour echecks ehead eheads =
    let end : length (take (length r - 4) (drop 4 r)) ≡ length r - 4 = simp (length-take, length-drop) (omega arith) in
    let s : sum ≡ check_of (take (length r - 4) r) = esum ∙ ap (λ n. check_of (take n r)) end in
    let c : not unchecked ≡ bytes_eq (drop (length r - 4) r) (bytes_of 4 (check_of (take (length r - 4) r))) = ap not echecks ∙ not_not _ ∙ ap (λ xs. bytes_eq xs four_of) (take_rest r (length (take (length r - 4) (drop 4 r))) ∙ ap (λ n. drop n r) end) ∙ ap (bytes_eq (drop (length r - 4) r)) (efour ∙ ap (bytes_of 4) s) in
    let h : not unheaded ≡ bytes_eq (take 4 r) (head_of kind number) = ap not eheads ∙ not_not _ ∙ ap (λ xs. bytes_eq xs head) (sym (four r l)) ∙ ap (bytes_eq (take 4 r)) ehead in
    rw (c, h) refl

-- after k rows: a list of the records that are left, each of `size` bytes, and the question that is left
pub record RowsLeft (v : PlanValues) (f : List ℕ) (k size : ℕ) (rest : List ℕ) : Type 0 where
  pub width : size ≡ slots v + 8
  pub within : k ≤ symbols v
  pub left : rest ≡ take ((symbols v - k) * (slots v + 8)) (drop (row_at v k) f)
  pub asked : rows_fault v f k (symbols v - k) ≡ rows_fault v f 0 (symbols v)

-- the first record of those that are left
pub record FirstLeft (v : PlanValues) (f : List ℕ) (k : ℕ) (x more : List ℕ) : Type 0 where
  pub inside : k < symbols v
  pub is : x ≡ take (slots v + 8) (drop (row_at v k) f)
  pub after : more ≡ take ((symbols v - (k + 1)) * (slots v + 8)) (drop (row_at v (k + 1)) f)

pub first_left : (v : PlanValues) (f : List ℕ) (k size : ℕ) (rest x more : List ℕ) → RowsLeft v f k size rest → rest ≡ x ++ more → length x ≡ size → FirstLeft v f k x more
first_left v f k size rest x more h e l =
    let w = slots v + 8 in
    let d = drop (row_at v k) f in
    let n = symbols v - (k + 1) in
    let lx : length x ≡ w = l ∙ h.width in
    let some : symbols v - k ≡ 0 → ⊥ = λ z.
    let none : rest ≡ [] = h.left ∙ ap (λ y. take (y * w) d) z ∙ ap (λ y. take y d) (zero-mul w) in
    omega (arith, ap length none, ap length e, length-append x more) in
    let inside : k < symbols v = omega arith in
    let s : symbols v - k ≡ suc n = omega arith in
    let split : (symbols v - k) * w ≡ w + n * w = ap (λ y. y * w) s ∙ (let m = suc-mul n w in omega arith) in
    let whole : rest ≡ take (w + n * w) d = h.left ∙ ap (λ y. take y d) split in
    let le : w ≤ w + n * w = omega arith in
    let front : x ≡ take w d = sym (take_at x more w lx) ∙ ap (take w) (sym e ∙ whole) ∙ take-take w (w + n * w) d le in
    let place : row_at v (k + 1) ≡ row_at v k + w = let a = add-mul k 1 w in let b = one-mul w in omega arith in
    let back : more ≡ take (n * w) (drop w d) = sym (drop_at x more w lx) ∙ ap (drop w) (sym e ∙ whole) ∙ drop-take w (n * w) d in
    record { inside = inside; is = front; after = back ∙ ap (take (n * w)) (drop-drop w (row_at v k) f ∙ ap (λ y. drop y f) (sym place)) }

rows_step : (v : PlanValues) (f : List ℕ) (k : ℕ) → k < symbols v → rows_fault v f k (symbols v - k) ≡ first_of (record_fault 2 (k + 1) (take (slots v + 8) (drop (row_at v k) f))) (rows_fault v f (k + 1) (symbols v - (k + 1)))
rows_step v f k l = let e : symbols v - k ≡ suc (symbols v - (k + 1)) = omega arith in ap (rows_fault v f k) e

-- a row that passes leaves the question to those after it
pub row_passes : (v : PlanValues) (f : List ℕ) (k size : ℕ) (rest x more : List ℕ) → RowsLeft v f k size rest → rest ≡ x ++ more → length x ≡ size → None ≡ record_fault 2 (k + 1) x → RowsLeft v f (k + 1) size more
row_passes v f k size rest x more h e l passes =
    let one = first_left v f k size rest x more h e l in
    let inside = one.inside in
    let p : record_fault 2 (k + 1) (take (slots v + 8) (drop (row_at v k) f)) ≡ None = sym (passes ∙ ap (record_fault 2 (k + 1)) one.is) in
    record {
      width = h.width;
      within = omega arith;
      left = one.after;
      asked = sym (rows_step v f k inside ∙ ap (λ o. first_of o (rows_fault v f (k + 1) (symbols v - (k + 1)))) p) ∙ h.asked;
    }

pub row_fails : (v : PlanValues) (f : List ℕ) (k size : ℕ) (rest x more : List ℕ) (y : Fault) → RowsLeft v f k size rest → rest ≡ x ++ more → length x ≡ size → Some y ≡ record_fault 2 (k + 1) x → Some y ≡ rows_fault v f 0 (symbols v)
row_fails v f k size rest x more y h e l fails =
    let one = first_left v f k size rest x more h e l in
    let p : record_fault 2 (k + 1) (take (slots v + 8) (drop (row_at v k) f)) ≡ Some y = sym (fails ∙ ap (record_fault 2 (k + 1)) one.is) in
    sym (rows_step v f k one.inside ∙ ap (λ o. first_of o (rows_fault v f (k + 1) (symbols v - (k + 1)))) p) ∙ h.asked

-- no whole record is left
pub none_left : (v : PlanValues) (f : List ℕ) (k size : ℕ) (rest : List ℕ) → rows_end v ≤ length f → RowsLeft v f k size rest → length rest < size → None ≡ rows_fault v f 0 (symbols v)
none_left v f k size rest long h short =
    let w = slots v + 8 in
    let within = h.within in
    let es = h.width in
    let e : symbols v * w ≡ k * w + (symbols v - k) * w = (let s : symbols v ≡ k + (symbols v - k) = omega arith in ap (λ y. y * w) s) ∙ add-mul k (symbols v - k) w in
    let n : length rest ≡ (symbols v - k) * w = ap length h.left ∙ length_piece ((symbols v - k) * w) (row_at v k) f (omega arith) in
    let done : symbols v - k ≡ 0 = ⊎_elim (λ z. z) (λ more. absurd (let m : 1 * w ≤ (symbols v - k) * w = mul-le-mul_right w (omega arith) in let o = one-mul w in omega arith)) (cases_eq (symbols v - k) 0) in
    sym (ap (rows_fault v f k) done) ∙ h.asked
