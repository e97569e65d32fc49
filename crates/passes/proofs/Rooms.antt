-- That columns and metastages lie within their parts of the table; `v` and `j` are the numbers of states and stages as the code has them.
use Rattle.std.proofs.Common.{◌≡◌, ℕ, ◌+◌, ◌*◌, ◌<◌, ◌≤◌, ap, ◌∙◌, arith}
use Rattle.passes.specs.Tables.{columns_size}
use Rattle.passes.proofs.Rows.{row_under}

pub stage_room : (v w n k base many : ℕ) → v ≡ w → k < n → base + n * (w * w) ≤ many → base + k * (v * v) + v * v ≤ many
stage_room v w n k base many is h room =
    let e = ap (λ v. k * (v * v)) is in
    let f = ap (λ v. v * v) is in
    let u = row_under k n (w * w) h in
    omega arith

-- two neighbouring columns
pub column_room : (v w n k : ℕ) → v ≡ w → k < n → k * v + v + v ≤ columns_size w n
column_room v w n k is h = let e = ap (λ v. k * v) is in let u = row_under k n w h in omega arith

pub columns_are : (v w j n : ℕ) → v ≡ w → j ≡ n → j * v + v ≡ columns_size w n
columns_are v w j n is many = ap (λ v. j * v + v) is ∙ ap (λ j. j * w + w) many

-- entry x, y of a square
pub entry_room : (x y w : ℕ) → x < w → y < w → x * w + y < w * w
entry_room x y w h k = let u = row_under x w w h in omega arith
