-- A buffer that is made a block after another.
use Rattle.std.proofs.Common.{◌≡◌, ℕ, suc, ◌+◌, ◌-◌, ◌*◌, ◌<◌, ◌≤◌, List, length, get_or, ap, ◌∙◌, ⊎_elim, le_refl, suc-mul, mul-le-mul, arith}
use borrow.Rule.Slice.PartMut.{put_mid}
use Rattle.std.proofs.lemmas.Bool.{cases_lt}
use Rattle.marginals.proofs.Frames.{put_before, put_within}

pub within : (k n m : ℕ) → k < n → k * m + m ≤ n * m
within k n m l = let h : suc k * m ≤ n * m = mul-le-mul l (le_refl m) in let z = suc-mul k m in omega arith

-- the places of a block after those before it
pub block_more : {X : Type 0} (d : X) (f g : ℕ → X) (k m w : ℕ) (out block : List X) → k * m ≤ length out → length block ≡ m
    → ((j : ℕ) → j < k * m → get_or out j d ≡ f j) → ((b : ℕ) → b < m → get_or block b d ≡ g b) → ((b : ℕ) → b < m → g b ≡ f (k * m + b))
    → (j : ℕ) → j < (k + 1) * m → get_or (put_mid (k * m) w out block) j d ≡ f j
block_more d f g k m w out block room long was made same j h =
    let end : (k + 1) * m ≡ k * m + m = omega arith in
    ⊎_elim
    (λ lt. put_before d (k * m) w out block room j lt ∙ was j lt)
    (λ ge.
    let b = j - k * m in
    let at : k * m + b ≡ j = omega arith in
    let low : b < m = omega arith in
    ap (λ i. get_or (put_mid (k * m) w out block) i d) (omega (arith, at)) ∙ put_within d (k * m) w out block room b (omega arith) ∙ made b low ∙ same b low ∙ ap f at)
    (cases_lt j (k * m))
