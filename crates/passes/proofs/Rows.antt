-- Rows of a table: products of a number of rows and their width.
use Rattle.std.proofs.Common.{◌≡◌, ℕ, ◌+◌, ◌*◌, ◌/◌, ◌<◌, ◌≤◌, ap, ◌∙◌, mul-le-mul_right, add-mul, one-mul, arith}

pub row_more : (k w : ℕ) → (k + 1) * w ≡ k * w + w
row_more k w = add-mul k 1 w ∙ ap (λ n. k * w + n) (one-mul w)

pub rows : (j k w : ℕ) → j ≤ k → j * w ≤ k * w
rows j k w h = mul-le-mul_right w h

pub row_under : (j k w : ℕ) → j < k → j * w + w ≤ k * w
row_under j k w h = let a = rows (j + 1) k w (omega arith) in let b = row_more j w in omega arith

pub square_low : (w : ℕ) → w ≤ 16 → w * w ≤ 256
square_low w h = let a = rows w 16 w h in omega arith

-- two neighbours of many
pub two_under : (j many q : ℕ) → j < many / 2 → 2 * j * q + q + q ≤ many * q
two_under j many q h = let a = row_under (2 * j + 1) many q (omega arith) in let b = row_more (2 * j) q in omega arith
