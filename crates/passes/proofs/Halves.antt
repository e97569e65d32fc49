-- Two columns side by side, of which each turn makes one anew from the other.
use Rattle.std.proofs.Common.{◌≡◌, ℕ, ◌+◌, ◌-◌, ◌*◌, ◌%◌, ◌<◌, ◌≤◌, List, ◌++◌, length, get_or, drop, ap, ◌∙◌, ⊎_elim, arith}
use Rattle.std.proofs.lemmas.Bool.{cases_eq}
use Rattle.std.proofs.lemmas.List.{get_or_append_left, get_or-append_right, get_or-drop}

-- the places of the two before and behind stage k
pub even_place : (k w b a : ℕ) → b ≡ k % 2 * w → a ≡ (k + 1) % 2 * w → b < a → k % 2 ≡ 0
even_place k w b a is_b is_a less =
    ⊎_elim
    (λ q. q)
    (λ q.
    let odd : k % 2 ≡ 1 = omega arith in
    let even : (k + 1) % 2 ≡ 0 = omega arith in
    let x : b ≡ 1 * w = is_b ∙ ap (λ e. e * w) odd in
    let y : a ≡ 0 * w = is_a ∙ ap (λ e. e * w) even in
    absurd (omega arith))
    (cases_eq (k % 2) 0)

pub odd_place : (k w b a : ℕ) → 0 < w → b ≡ k % 2 * w → a ≡ (k + 1) % 2 * w → a ≤ b → k % 2 ≡ 1
odd_place k w b a some is_b is_a less =
    ⊎_elim
    (λ q.
    let odd : (k + 1) % 2 ≡ 1 = omega arith in
    let x : b ≡ 0 * w = is_b ∙ ap (λ e. e * w) q in
    let y : a ≡ 1 * w = is_a ∙ ap (λ e. e * w) odd in
    absurd (omega arith))
    (λ q. omega arith)
    (cases_eq (k % 2) 0)

-- a half's places
pub in_left : (e w s : ℕ) → e ≡ 0 → e * w + s ≡ s
in_left e w s q = let x : e * w + s ≡ 0 * w + s = ap (λ e. e * w + s) q in omega arith

pub in_right : (e w s : ℕ) → e ≡ 1 → e * w + s ≡ w + s
in_right e w s q = let x : e * w + s ≡ 1 * w + s = ap (λ e. e * w + s) q in omega arith

-- the new column a in one half, the old one in the other, the rest as it was
abbrev pub Turned : {W : Type 0} → W → ℕ → ℕ → List W → List W → List W → Type 0
Turned d w k cs a new =
    ((s : ℕ) → s < w → get_or new ((k + 1) % 2 * w + s) d ≡ get_or a s d)
    × ((s : ℕ) → s < w → get_or new ((k + 1 + 1) % 2 * w + s) d ≡ get_or cs (k % 2 * w + s) d)
    × ((p : ℕ) → w + w ≤ p → get_or new p d ≡ get_or cs p d)

module _ {W : Type 0} (d : W) (w k : ℕ) (cs l r : List W) (low : (i : ℕ) → i < w → get_or l i d ≡ get_or cs i d) (high : (i : ℕ) → get_or r i d ≡ get_or cs (w + i) d) where
  pub to_right : (a new : List W) → length l ≡ w → length a ≡ w → new ≡ l ++ (a ++ drop w r) → k % 2 ≡ 0 → Turned d w k cs a new
  to_right a new long wide is even = (
    λ s h.
        let e : (k + 1) % 2 ≡ 1 = omega arith in
        let at : w + s - w ≡ s = omega arith in
        ap (λ p. get_or new p d) (in_right _ w s e) ∙ ap (λ n. get_or n (w + s) d) is ∙ get_or-append_right l (a ++ drop w r) w (w + s) d long (omega arith)
        ∙ ap (λ p. get_or (a ++ drop w r) p d) at ∙ get_or_append_left a (drop w r) d s (omega arith),
    λ s h.
        let e : (k + 1 + 1) % 2 ≡ 0 = omega arith in
        ap (λ p. get_or new p d) (in_left _ w s e) ∙ ap (λ n. get_or n s d) is ∙ get_or_append_left l (a ++ drop w r) d s (omega arith)
        ∙ low s h ∙ ap (λ p. get_or cs p d) (let q = in_left _ w s even in omega arith),
    λ p h.
        let at : w + (w + (p - w - w)) ≡ p = omega arith in
        ap (λ n. get_or n p d) is ∙ get_or-append_right l (a ++ drop w r) w p d long (omega arith)
        ∙ get_or-append_right a (drop w r) w (p - w) d wide (omega arith) ∙ get_or-drop w r (p - w - w) d ∙ high (w + (p - w - w)) ∙ ap (λ p. get_or cs p d) at,
  )

  pub to_left : (a new : List W) → length a ≡ w → new ≡ a ++ r → k % 2 ≡ 1 → Turned d w k cs a new
  to_left a new wide is odd = (
    λ s h.
        let e : (k + 1) % 2 ≡ 0 = omega arith in
        ap (λ p. get_or new p d) (in_left _ w s e) ∙ ap (λ n. get_or n s d) is ∙ get_or_append_left a r d s (omega arith),
    λ s h.
        let e : (k + 1 + 1) % 2 ≡ 1 = omega arith in
        let at : w + (w + s - w) ≡ k % 2 * w + s = (let q = in_right _ w s odd in omega arith) in
        ap (λ p. get_or new p d) (in_right _ w s e) ∙ ap (λ n. get_or n (w + s) d) is ∙ get_or-append_right a r w (w + s) d wide (omega arith)
        ∙ high (w + s - w) ∙ ap (λ p. get_or cs p d) at,
    λ p h.
        let at : w + (p - w) ≡ p = omega arith in
        ap (λ n. get_or n p d) is ∙ get_or-append_right a r w p d wide (omega arith) ∙ high (p - w) ∙ ap (λ p. get_or cs p d) at,
  )
