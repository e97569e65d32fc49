-- The level at which one metastage is left is the first such.
use Rattle.std.proofs.Common.{◌≡◌, ℕ, zero, suc, ◌+◌, ◌<◌, ◌≤◌, leb, length, get_or, ap, ◌∙◌, ⊎_elim, add-one, arith}
use Rattle.std.proofs.lemmas.Bool.{cases_lt, cond-true, cond-false, le-leb, lt-leb}
use Rattle.paths.specs.Metastages.{level_size, level_start}
use Rattle.ways.specs.WorkTables.{Range, last_from, last_level, all_ranges}
use Rattle.ways.proofs.Ranges.{range_of, ranges_below, ranges_long, range_at}

from_is : (n r fuel l : ℕ) → level_size n r ≡ 1 → ((i : ℕ) → i < r → 1 < level_size n i) → l ≤ r → r < l + fuel → last_from n fuel l ≡ r
from_is n r zero l one many low high = absurd (omega arith)
from_is n r (suc fuel) l one many low high =
    ⊎_elim
    (λ lt. cond-false (leb (level_size n l) 1) l (last_from n fuel (l + 1)) (lt-leb (level_size n l) 1 (many l lt)) ∙ from_is n r fuel (l + 1) one many (omega arith) (omega arith))
    (λ ge.
    let e : l ≡ r = omega arith in
    let f = ap (level_size n) e in
    cond-true (leb (level_size n l) 1) l (last_from n fuel (l + 1)) (le-leb (level_size n l) 1 (omega arith)) ∙ e)
    (cases_lt l r)

pub last_is : (n r : ℕ) → r ≤ 14 → level_size n r ≡ 1 → ((i : ℕ) → i < r → 1 < level_size n i) → last_level n ≡ r
unfolding last_level
last_is n r few one many = from_is n r 15 0 one many (omega arith) (omega arith)

-- so the list has the ranges of the levels up to r
pub all_are : (n r : ℕ) → last_level n ≡ r → all_ranges n ≡ ranges_below n (suc r)
unfolding all_ranges
all_are n r e = ap (λ l. ranges_below n (l + 1)) e ∙ ap (ranges_below n) (add-one r)

pub all_long : (n r : ℕ) → last_level n ≡ r → length (all_ranges n) ≡ level_start n (suc r)
all_long n r e = ap length (all_are n r e) ∙ ranges_long n (suc r)

pub all_at : (n r l j : ℕ) (d : Range) → last_level n ≡ r → l < suc r → j < level_size n l → get_or (all_ranges n) (level_start n l + j) d ≡ range_of n l j
all_at n r l j d e low small = ap (λ xs. get_or xs (level_start n l + j) d) (all_are n r e) ∙ range_at n (suc r) l j d low small
