-- The slots of words: how large they are, their last bit, twice as many of them, and how those out of both states mirror each other.
use Rattle.std.proofs.Common.{◌≡◌, ℕ, zero, suc, ◌+◌, ◌-◌, ◌*◌, ◌%◌, ◌^◌, ◌<◌, ◌≤◌, List, get_or, sym, refl, ap, ◌∙◌, ⊎_elim, add-one, arith}
use native.Mathlib.Nat.{pow-succ'}
use Rattle.std.proofs.lemmas.Bool.{cases_lt}
use Rattle.trellises.specs.Inner.{accumulated, slot_of}
use Rattle.trellises.specs.Bounds.{accumulated_low}
use Rattle.trellises.proofs.WordBits.{bit_low, bit_high, bit_kept}

pub slot_low : (from word j : ℕ) → from < 2 → slot_of from word j < 2 ^ j
slot_low from word zero h = omega arith
slot_low from word (suc j) h =
    let rest = slot_low from word j h in
    let one = accumulated_low from word (suc j) h in
    let p : 2 ^ suc j ≡ 2 * 2 ^ j = pow-succ' 2 j in
    omega arith

-- the last accumulated bit is the slot's last bit
pub slot_last : (from word j : ℕ) → 1 ≤ j → from < 2 → slot_of from word j % 2 ≡ accumulated from word j
slot_last from word zero some h = absurd (omega arith)
slot_last from word (suc j) some h = let one = accumulated_low from word (suc j) h in omega arith

last_from_zero : (word j : ℕ) → slot_of 0 word j % 2 ≡ accumulated 0 word j
last_from_zero word zero = refl
last_from_zero word (suc j) = slot_last 0 word (suc j) (omega arith) (omega arith)

-- a bit set above the first j changes none of the first j accumulated bits
kept_accumulated : (word j i : ℕ) → i ≤ j → accumulated 0 (2 ^ j + word) i ≡ accumulated 0 word i
kept_accumulated word j zero h = refl
kept_accumulated word j (suc i) h =
    let b = bit_kept word j i h in
    let r = kept_accumulated word j i (omega arith) in
    omega arith

kept_slot : (word j i : ℕ) → i ≤ j → slot_of 0 (2 ^ j + word) i ≡ slot_of 0 word i
kept_slot word j zero h = refl
kept_slot word j (suc i) h =
    let a = kept_accumulated word j (suc i) h in
    let r = kept_slot word j i (omega arith) in
    omega arith

module _ (j word : ℕ) (h : word < 2 ^ j) where
  slot_zero : slot_of 0 word (suc j) ≡ 2 * slot_of 0 word j + slot_of 0 word j % 2
  slot_zero =
      let b = bit_low word j h in
      let l = last_from_zero word j in
      let a = accumulated_low 0 word j (omega arith) in
      omega arith

  slot_one : slot_of 0 (2 ^ j + word) (suc j) ≡ 2 * slot_of 0 word j + (1 - slot_of 0 word j % 2)
  slot_one =
      let b = bit_high word j h in
      let l = last_from_zero word j in
      let a = accumulated_low 0 word j (omega arith) in
      let r = kept_accumulated word j j (omega arith) in
      let s = kept_slot word j j (omega arith) in
      omega arith

-- the table of the words of j bits becomes that of the words of j + 1 bits
pub slots_doubled : (j size : ℕ) (xs ys : List ℕ) → size ≡ 2 ^ j
    → ((w : ℕ) → w < 2 ^ j → get_or xs w 0 ≡ slot_of 0 w j)
    → ((w : ℕ) → w < size → get_or ys w 0 ≡ 2 * get_or xs w 0 + get_or xs w 0 % 2)
    → ((w : ℕ) → w < size → get_or ys (size + w) 0 ≡ 2 * get_or xs w 0 + (1 - get_or xs w 0 % 2))
    → (w : ℕ) → w < 2 ^ (j + 1) → get_or ys w 0 ≡ slot_of 0 w (j + 1)
slots_doubled j size xs ys s inv low high =
    let p : 2 ^ suc j ≡ 2 * 2 ^ j = pow-succ' 2 j in
    rw add-one (λ w h. ⊎_elim
    (λ (l : w < 2 ^ j). low w (omega arith) ∙ ap (λ x. 2 * x + x % 2) (inv w l) ∙ sym (slot_zero j w l))
    (λ (l : 2 ^ j ≤ w).
    let v = w - 2 ^ j in
    let k : v < 2 ^ j = omega arith in
    let e : size + v ≡ w = omega arith in
    let f : 2 ^ j + v ≡ w = omega arith in
    ap (λ x. get_or ys x 0) (sym e) ∙ high v (omega arith) ∙ ap (λ x. 2 * x + (1 - x % 2)) (inv v k) ∙ sym (slot_one j v k) ∙ ap (λ x. slot_of 0 x (suc j)) f)
    (cases_lt w (2 ^ j)))

across : (word j : ℕ) → accumulated 0 word j + accumulated 1 word j ≡ 1
across word zero = refl
across word (suc j) = omega (arith, across word j)

-- the slots of one word out of both states mirror each other
pub mirrored : (word j : ℕ) → slot_of 0 word j + slot_of 1 word j + 1 ≡ 2 ^ j
mirrored word zero = refl
mirrored word (suc j) =
    let p : 2 ^ suc j ≡ 2 * 2 ^ j = pow-succ' 2 j in
    let a = across word (suc j) in
    let r = mirrored word j in
    omega arith
