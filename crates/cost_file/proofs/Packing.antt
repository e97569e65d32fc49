-- One record: its length, that a packed record passes, and that a record that passes is packed.
use Rattle.std.proofs.Common.{◌≡◌, ℕ, ◌+◌, ◌-◌, ◌≤◌, List, ◌++◌, length, take, drop, None, sym, refl, ap, ◌∙◌, arith, length-append, take-append-drop}
use Rattle.std.specs.Str.{bytes_eq}
use Rattle.std.proofs.lemmas.List.{take_at, drop_at, take-take, drop-take, append_assoc}
use Rattle.plans.specs.declared.refusals.Refusal.TheVariants.{RecordCheck}
use Rattle.polynomial.specs.Bytes.{check_of}
use Rattle.cost_file.specs.declared.faults.Layer.TheVariants.{File}
use Rattle.plans.specs.Refusals.{unless}
use Rattle.cost_file.specs.Records.{bytes_of, head_of, packed, fault, record_fault}
use Rattle.cost_file.proofs.Questions.{unless_none, first_none, same_refl, same_true}

pub length_packed : (kind number : ℕ) (body : List ℕ) → length (packed kind number body) ≡ length body + 8
unfolding packed
length_packed kind number body = simp length-append (omega arith)

-- a packed record has nothing wrong
pub packed_passes : (kind number : ℕ) (body : List ℕ) → record_fault kind number (packed kind number body) ≡ None
unfolding record_fault packed
packed_passes kind number body =
    let front : List ℕ = head_of kind number ++ body in
    let n : length front ≡ length (front ++ bytes_of 4 (check_of front)) - 4 = simp length-append (omega arith) in
    let t = take_at front (bytes_of 4 (check_of front)) _ n in
    let d = drop_at front (bytes_of 4 (check_of front)) _ n in
    rw (t, d, same_refl (bytes_of 4 (check_of front)), same_refl (head_of kind number)) refl

-- a record with nothing wrong is its body, packed
pub passes_packed : (kind number : ℕ) (r : List ℕ) → 8 ≤ length r → record_fault kind number r ≡ None → packed kind number (take (length r - 8) (drop 4 r)) ≡ r
unfolding record_fault packed
passes_packed kind number r long h =
    let front : List ℕ = take (length r - 4) r in
    let e = first_none (unless (bytes_eq (drop (length r - 4) r) (bytes_of 4 (check_of front))) (fault RecordCheck number File)) _ h in
    let tail = same_true (drop (length r - 4) r) (bytes_of 4 (check_of front)) (unless_none _ _ e.0) in
    let start = same_true (take 4 r) (head_of kind number) (unless_none _ _ e.1) in
    let n : length r - 4 ≡ 4 + (length r - 8) = omega arith in
    let le : 4 ≤ length r - 4 = omega arith in
    let mid : drop 4 front ≡ take (length r - 8) (drop 4 r) = ap (λ m. drop 4 (take m r)) n ∙ drop-take 4 (length r - 8) r in
    let whole : front ≡ head_of kind number ++ take (length r - 8) (drop 4 r) = sym (take-append-drop 4 front) ∙ ap (λ xs. xs ++ drop 4 front) (take-take 4 (length r - 4) r le ∙ start) ∙ ap (λ xs. head_of kind number ++ xs) mid in
    ap (λ xs. xs ++ bytes_of 4 (check_of xs)) (sym whole) ∙ ap (λ xs. front ++ xs) (sym tail) ∙ take-append-drop (length r - 4) r

-- the body of a record that stands before others
pub body_in : (kind number : ℕ) (body rest : List ℕ) (n : ℕ) → length body ≡ n → take n (drop 4 (packed kind number body ++ rest)) ≡ body
unfolding packed
body_in kind number body rest n e =
    let sum : List ℕ = bytes_of 4 (check_of (head_of kind number ++ body)) in
    ap (take n) (append_assoc body sum rest) ∙ take_at body (sum ++ rest) n e
