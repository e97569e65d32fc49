-- The penalties of words: what a bit set in a word changes, and what the priors of one word alone say.
use Rattle.std.proofs.Common.{◌≡◌, ℕ, zero, suc, take, drop, length, length-take, length-drop, get_or-take, get_or-drop, ◌+◌, ◌-◌, ◌*◌, ◌^◌, ◌<◌, ◌≤◌, List, get_or, ℤ, pos, sym, refl, ap, ◌∙◌, ⊎_elim, add-one, arith}
use native.Mathlib.Nat.{pow-succ', pow-le-pow_right}
use Rattle.std.proofs.lemmas.Bool.{cases_lt}
use Rattle.trellises.specs.Priors.{bit, penalty, penalties}
use Rattle.trellises.proofs.WordBits.{bit_low, bit_high, bit_kept}

module _ (priors : List ℤ) (at j word : ℕ) (h : word < 2 ^ j) where
  -- a bit set above a word leaves the penalties under it
  under : (i : ℕ) → i ≤ j → penalties priors at (2 ^ j + word) i ≡ penalties priors at word i
  under zero l = refl
  under (suc i) l =
      let prior = get_or priors (at + i) (pos 0) in
      let b = ap (penalty prior) (bit_kept word j i l) in
      let r = under i (omega arith) in
      omega arith

  -- it costs its one in the place of its zero
  pub penalties_set : (i : ℕ) → j < i → penalties priors at (2 ^ j + word) i + penalty (get_or priors (at + j) (pos 0)) 0 ≡ penalties priors at word i + penalty (get_or priors (at + j) (pos 0)) 1
  penalties_set zero l = absurd (omega arith)
  penalties_set (suc i) l =
      let prior = get_or priors (at + i) (pos 0) in
      ⊎_elim
      (λ (more : j < i).
      let p : 2 ^ suc j ≡ 2 * 2 ^ j = pow-succ' 2 j in
      let q = pow-le-pow_right {n = 2} (omega arith) {i = suc j} {j = i} more in
      let b = ap (penalty prior) (bit_low (2 ^ j + word) i (omega arith)) in
      let c = ap (penalty prior) (bit_low word i (omega arith)) in
      let r = penalties_set i more in
      omega arith)
      (λ (last : i ≤ j).
      let e : i ≡ j = omega arith in
      let b = ap (penalty (get_or priors (at + j) (pos 0))) (bit_high word j h) in
      let c = ap (penalty (get_or priors (at + j) (pos 0))) (bit_low word j h) in
      let u = under j (omega arith) in
      rw e (omega arith))
      (cases_lt j i)

-- the penalties of the words of j bits, with those of the words of j + 1 bits laid behind them
pub penalties_doubled : (priors : List ℤ) (at m j size nil one : ℕ) (xs ys : List ℕ) → j < m → size ≡ 2 ^ j
    → nil ≡ penalty (get_or priors (at + j) (pos 0)) 0 → one ≡ penalty (get_or priors (at + j) (pos 0)) 1
    → ((w : ℕ) → w < 2 ^ j → get_or xs w 0 ≡ penalties priors at w m)
    → ((w : ℕ) → w < size → get_or ys w 0 ≡ get_or xs w 0)
    → ((w : ℕ) → w < size → get_or ys (size + w) 0 + nil ≡ get_or xs w 0 + one)
    → (w : ℕ) → w < 2 ^ (j + 1) → get_or ys w 0 ≡ penalties priors at w m
penalties_doubled priors at m j size nil one xs ys within s a b inv low high w h =
    let p : 2 ^ (j + 1) ≡ 2 * 2 ^ j = rw add-one (pow-succ' 2 j) in
    ⊎_elim
    (λ (l : w < 2 ^ j). low w (omega arith) ∙ inv w l)
    (λ (l : 2 ^ j ≤ w).
    let v = w - 2 ^ j in
    let k : v < 2 ^ j = omega arith in
    let e : size + v ≡ w = omega arith in
    let f : 2 ^ j + v ≡ w = omega arith in
    let set : get_or ys (size + v) 0 ≡ penalties priors at (2 ^ j + v) m = omega (arith, high v (omega arith), inv v k, penalties_set priors at j v k m within) in
    ap (λ x. get_or ys x 0) (sym e) ∙ set ∙ ap (λ x. penalties priors at x m) f)
    (cases_lt w (2 ^ j))

-- the penalties by the priors of one word alone
part_upto : (priors : List ℤ) (at word n j : ℕ) → j ≤ n → penalties (take n (drop at priors)) 0 word j ≡ penalties priors at word j
part_upto priors at word n zero h = refl
part_upto priors at word n (suc j) h =
    let rest = part_upto priors at word n j (omega arith) in
    let here : get_or (take n (drop at priors)) (0 + j) (pos 0) ≡ get_or priors (at + j) (pos 0) = grind (arith, get_or-take, get_or-drop) in
    ap (λ z. penalties (take n (drop at priors)) 0 word j + penalty z (bit word j)) here ∙ ap (λ p. p + penalty (get_or priors (at + j) (pos 0)) (bit word j)) rest

pub penalties_part : (priors : List ℤ) (at word n : ℕ) → at + n ≤ length priors → penalties (take n (drop at priors)) 0 word (length (take n (drop at priors))) ≡ penalties priors at word n
penalties_part priors at word n h =
    let l : length (take n (drop at priors)) ≡ n = grind (arith, length-take, length-drop) in
    ap (λ j. penalties (take n (drop at priors)) 0 word j) l ∙ part_upto priors at word n n (omega arith)
