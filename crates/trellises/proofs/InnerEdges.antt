-- What stands where in the inner trellis.
use Rattle.std.proofs.Common.{◌≡◌, ℕ, ◌+◌, ◌-◌, ◌*◌, ◌/◌, ◌%◌, ◌^◌, ◌<◌, ◌≤◌, min, length, List, get_or, ℤ, Some, None, sym, refl, ap, ◌∙◌, ⊎_elim, mod-eq_of_lt, arith}
use native.Mathlib.Nat.{div-eq_of_lt}
use Rattle.std.proofs.lemmas.Nat.{pow_pos, div_below, div-mul-add, mod-mul-add}
use Rattle.std.proofs.lemmas.Bool.{cases_lt, lt-ltb, le-ltb}
use Rattle.paths.specs.declared.edges.Edge.{Edge}
use Rattle.paths.specs.Trellises.{edge_at}
use Rattle.trellises.specs.Counts.{nth_counted, nth_counted_past}
use Rattle.trellises.specs.Priors.{penalties}
use Rattle.trellises.specs.Inner.{inner, inner_at, inner_cost, slot_of}
use Rattle.trellises.proofs.SlotLaws.{slot_low, slot_last, mirrored}

module _ (m n : ℕ) (rows : List ℕ) (priors : List ℤ) (k : ℕ) (h : k < n) where
  pub inner_here : (i : ℕ) → i < 2 * 2 ^ m → edge_at (inner m n rows priors) k i ≡ Some (inner_at m rows priors k i)
  inner_here i b = rw (lt-ltb k n h) (nth_counted (inner_at m rows priors k) (2 * 2 ^ m) i b)

  pub inner_past : (i : ℕ) → 2 * 2 ^ m ≤ i → edge_at (inner m n rows priors) k i ≡ None
  inner_past i b = rw (lt-ltb k n h) (nth_counted_past (inner_at m rows priors k) (2 * 2 ^ m) i b)

-- beyond the last stage there is no edge
pub inner_beyond : (m n : ℕ) (rows : List ℕ) (priors : List ℤ) (k i : ℕ) → n ≤ k → edge_at (inner m n rows priors) k i ≡ None
inner_beyond m n rows priors k i h = rw (le-ltb k n h) refl

-- edges below 2^m leave state 0, the others state 1
low_half : (m i : ℕ) → i < 2 ^ m → (0 ≡ i / 2 ^ m) × (i ≡ i % 2 ^ m)
low_half m i h = (sym (div-eq_of_lt {n = i} {m = 2 ^ m} h), sym (mod-eq_of_lt {n = i} {m = 2 ^ m} h))

high_half : (m i : ℕ) → 2 ^ m ≤ i → i < 2 * 2 ^ m → (1 ≡ i / 2 ^ m) × (i - 2 ^ m ≡ i % 2 ^ m)
high_half m i h l =
    let v = i - 2 ^ m in
    let u : v < 2 ^ m = omega arith in
    let e : i ≡ 1 * 2 ^ m + v = omega arith in
    (sym (ap (λ x. x / 2 ^ m) e ∙ div-mul-add 1 (2 ^ m) v u), sym (ap (λ x. x % 2 ^ m) e ∙ mod-mul-add 1 (2 ^ m) v u))

module _ (m n : ℕ) (rows : List ℕ) (priors : List ℤ) (k : ℕ) (h : k < n) (some : 1 ≤ m) where
  -- the edge by its from state, word and slot
  pub inner_made : (i from word slot cost : ℕ) → i < 2 * 2 ^ m → from ≡ i / 2 ^ m → word ≡ i % 2 ^ m → slot ≡ slot_of from word m
      → cost ≡ min (get_or rows (k * 2 ^ m + slot) 0) 255 + penalties priors (k * m) word m
      → Some (record { from = from; to = slot % 2; word = word; cost = cost }) ≡ edge_at (inner m n rows priors) k i
  inner_made i from word slot cost b f w s c =
      let t = slot_last (i / 2 ^ m) (i % 2 ^ m) m some (div_below i (2 ^ m) 2 (pow_pos m) b) in
      rw (c, s, w, f, t) (sym (inner_here m n rows priors k h i b))

  -- a stage's costs, from those of its words
  pub inner_laid : (row slots xs ys : List ℕ) → length slots ≡ 2 ^ m
      → ((i : ℕ) → i < 2 ^ m → get_or row i 0 ≡ get_or rows (k * 2 ^ m + i) 0)
      → ((w : ℕ) → w < 2 ^ m → get_or slots w 0 ≡ slot_of 0 w m)
      → ((w : ℕ) → w < 2 ^ m → get_or xs w 0 ≡ penalties priors (k * m) w m)
      → ((w : ℕ) → w < length slots → get_or ys w 0 ≡ min (get_or row (get_or slots w 0) 0) 255 + get_or xs w 0)
      → ((w : ℕ) → w < length slots → get_or ys (length slots + w) 0 ≡ min (get_or row (length slots - 1 - get_or slots w 0) 0) 255 + get_or xs w 0)
      → (i : ℕ) (e : Edge) → edge_at (inner m n rows priors) k i ≡ Some e → get_or ys i 0 ≡ e.cost
  inner_laid row slots xs ys size there t paid nil one i e q =
      ⊎_elim
      (λ (b : i < 2 * 2 ^ m).
      let is : Some (inner_at m rows priors k i) ≡ Some e = sym (inner_here m n rows priors k h i b) ∙ q in
      let same : inner_at m rows priors k i ≡ e = cc in
      let made : (place from word paid : ℕ) → from < 2 → from ≡ i / 2 ^ m → word ≡ i % 2 ^ m → place ≡ slot_of from word m → paid ≡ penalties priors (k * m) word m
      → min (get_or row place 0) 255 + paid ≡ e.cost = λ place from word paid low f w p c.
      ap (λ x. min x 255 + paid) (there place (omega (arith, slot_low from word m low)))
      ∙ ap (λ x. min (get_or rows (k * 2 ^ m + x) 0) 255 + paid) p
      ∙ ap (λ x. min (get_or rows (k * 2 ^ m + slot_of from word m) 0) 255 + x) c
      ∙ ap (λ x. inner_cost m rows priors k x word) f ∙ ap (λ x. inner_cost m rows priors k (i / 2 ^ m) x) w ∙ ap (λ e. e.cost) same in
      ⊎_elim
      (λ (l : i < 2 ^ m).
      let half = low_half m i l in
      nil i (omega arith) ∙ made (get_or slots i 0) 0 i (get_or xs i 0) (omega arith) half.0 half.1 (t i l) (paid i l))
      (λ (l : 2 ^ m ≤ i).
      let v = i - 2 ^ m in
      let u : v < 2 ^ m = omega arith in
      let at : i ≡ length slots + v = omega arith in
      let far : length slots - 1 - get_or slots v 0 ≡ slot_of 1 v m = omega (arith, t v u, mirrored v m) in
      let half = high_half m i l b in
      ap (λ x. get_or ys x 0) at ∙ one v (omega arith) ∙ made (length slots - 1 - get_or slots v 0) 1 v (get_or xs v 0) (omega arith) half.0 half.1 far (paid v u))
      (cases_lt i (2 ^ m)))
      (λ (b : 2 * 2 ^ m ≤ i).
      let none = inner_past m n rows priors k h i b in
      let z : ◌≡◌ {A = ℕ} 0 1 = cc in
      absurd (omega arith))
      (cases_lt i (2 * 2 ^ m))
