-- A list that is joined from pieces of one size, and the pieces of a list.
use Rattle.std.proofs.Common.{◌≡◌, ℕ, zero, suc, ◌+◌, ◌-◌, ◌*◌, ◌<◌, ◌≤◌, List, ◌++◌, length, take, drop, sym, refl, ap, ◌∙◌, add-zero, mul-le-mul_right, suc-mul, add-mul, one-mul, zero-mul, arith, length-append, length-drop, length-take, take-add}
use Rattle.std.specs.List.{range_with_len, flat_map}
use Rattle.std.proofs.lemmas.List.{take_at, drop_at, take-take, drop-take, append_assoc, append-nil, drop-drop}

abbrev pub AllSized : (ℕ → List ℕ) → ℕ → ℕ → ℕ → Type 0
AllSized g size k n = (i : ℕ) → k ≤ i → i < k + n → length (g i) ≡ size

pub length_joined : (g : ℕ → List ℕ) (size k n : ℕ) → AllSized g size k n → length (flat_map g (range_with_len k n)) ≡ n * size
length_joined g size k zero h = sym (zero-mul size)
length_joined g size k (suc n) h =
    let rec = length_joined g size (k + 1) n (λ i a b. h i (omega arith) (omega arith)) in
    let one = h k (omega arith) (omega arith) in
    let e = suc-mul n size in
    simp length-append (omega arith)

-- piece i of what is joined
pub joined_at : (g : ℕ → List ℕ) (size k n : ℕ) → AllSized g size k n → (rest : List ℕ) (i : ℕ) → i < n → take size (drop (i * size) (flat_map g (range_with_len k n) ++ rest)) ≡ g (k + i)
joined_at g size k zero h rest i l = absurd (omega arith)
joined_at g size k (suc n) h rest zero l =
    let more : List ℕ = flat_map g (range_with_len (k + 1) n) in
    let one = h k (omega arith) (omega arith) in
    rw (zero-mul, append_assoc, take_at (g k) (more ++ rest) size one, add-zero) refl
joined_at g size k (suc n) h rest (suc i) l =
    let more : List ℕ = flat_map g (range_with_len (k + 1) n) in
    let one = h k (omega arith) (omega arith) in
    let rec = joined_at g size (k + 1) n (λ j a b. h j (omega arith) (omega arith)) rest i (omega arith) in
    let e : suc i * size ≡ size + i * size = let m = suc-mul i size in omega arith in
    let d : drop (suc i * size) ((g k ++ more) ++ rest) ≡ drop (i * size) (more ++ rest) = ap (λ m. drop m ((g k ++ more) ++ rest)) e ∙ sym (drop-drop (i * size) size ((g k ++ more) ++ rest)) ∙ ap (drop (i * size)) (ap (drop size) (append_assoc (g k) more rest) ∙ drop_at (g k) (more ++ rest) size one) in
    let s : k + 1 + i ≡ k + suc i = omega arith in
    ap (take size) d ∙ rec ∙ ap g s

pub joined_same : (g h : ℕ → List ℕ) (k n : ℕ) → ((i : ℕ) → k ≤ i → i < k + n → g i ≡ h i) → flat_map g (range_with_len k n) ≡ flat_map h (range_with_len k n)
joined_same g h k zero e = refl
joined_same g h k (suc n) e =
    let one = e k (omega arith) (omega arith) in
    let rec = joined_same g h (k + 1) n (λ i a b. e i (omega arith) (omega arith)) in
    rw (one, rec) refl

-- the pieces of a list in their order are the list
pub pieces : (size : ℕ) (at : ℕ → ℕ) → ((i : ℕ) → at (i + 1) ≡ at i + size) → (k n : ℕ) (xs : List ℕ) → flat_map (λ i. take size (drop (at i) xs)) (range_with_len k n) ≡ take (n * size) (drop (at k) xs)
pieces size at step k zero xs = rw zero-mul refl
pieces size at step k (suc n) xs =
    let rec = pieces size at step (k + 1) n xs in
    let s : size + n * size ≡ suc n * size = let m = suc-mul n size in omega arith in
    let d : drop (at (k + 1)) xs ≡ drop size (drop (at k) xs) = ap (λ m. drop m xs) (step k) ∙ sym (drop-drop size (at k) xs) in
    rw (rec, d) (sym (take-add size (n * size) (drop (at k) xs)) ∙ ap (λ m. take m (drop (at k) xs)) s)

-- a piece lies within the list
pub piece_within : (i n size : ℕ) → i < n → i * size + size ≤ n * size
piece_within i n size l =
    let a : (i + 1) * size ≤ n * size = mul-le-mul_right size (omega arith) in
    let b = add-mul i 1 size in
    let o = one-mul size in
    omega arith

pub length_piece : (size at : ℕ) (xs : List ℕ) → at + size ≤ length xs → length (take size (drop at xs)) ≡ size
length_piece size at xs l = simp (length-take, length-drop) (omega arith)

-- a part of a part
pub inner_piece : (size at n m : ℕ) (xs : List ℕ) → m + n ≤ size → take n (drop m (take size (drop at xs))) ≡ take n (drop (at + m) xs)
inner_piece size at n m xs l =
    let e : size ≡ m + (size - m) = omega arith in
    let le : n ≤ size - m = omega arith in
    ap (λ k. take n (drop m (take k (drop at xs)))) e ∙ ap (take n) (drop-take m (size - m) (drop at xs)) ∙ take-take n (size - m) (drop m (drop at xs)) le ∙ ap (take n) (drop-drop m at xs)

pub joined_push : (g : ℕ → List ℕ) (k n : ℕ) → flat_map g (range_with_len k (n + 1)) ≡ flat_map g (range_with_len k n) ++ g (k + n)
joined_push g k zero = rw add-zero (append-nil (g k))
joined_push g k (suc n) =
    let s : suc n + 1 ≡ suc (n + 1) = omega arith in
    let e : k + 1 + n ≡ k + suc n = omega arith in
    ap (λ m. flat_map g (range_with_len k m)) s ∙ ap (λ xs. g k ++ xs) (joined_push g (k + 1) n ∙ ap (λ m. flat_map g (range_with_len (k + 1) n) ++ g m) e) ∙ sym (append_assoc (g k) (flat_map g (range_with_len (k + 1) n)) (g (k + suc n)))
