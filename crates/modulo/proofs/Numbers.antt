-- What the two operations on numbers modulo 65,536 give, case by case.
use Rattle.std.proofs.Common.{◌≡◌, ℕ, suc, ◌+◌, ◌-◌, ◌%◌, ◌<◌, ◌≤◌, pos, negsuc, ◌-ℤ◌, ap, ◌∙◌, ⊎_elim, arith, w16, to_z}
use mir.Facts.{to_z-neg}
use Rattle.std.proofs.lemmas.Int.{ints}
use Rattle.std.proofs.lemmas.Bool.{cases_lt, eq-eqb, ne_eqb, lt-ltb, le-ltb}
use Rattle.modulo.specs.Modulo.{apart, nearer, sum_modulo}

-- none on the left
pub nearer_left : (x y : ℕ) → x ≡ 65536 → nearer x y ≡ y
unfolding nearer
nearer_left x y h = rw (eq-eqb x 65536 h)

-- none on the right
pub nearer_right : (x y : ℕ) → x < 65536 → y ≡ 65536 → nearer x y ≡ x
unfolding nearer
nearer_right x y l h = rw (ne_eqb x 65536 (λ e. omega arith), eq-eqb y 65536 h)

pub nearer_takes : (x y : ℕ) → x < 65536 → y < 65536 → apart x y < 32768 → nearer x y ≡ y
unfolding nearer
nearer_takes x y l k h = rw (ne_eqb x 65536 (λ e. omega arith), ne_eqb y 65536 (λ e. omega arith), lt-ltb (apart x y) 32768 h)

pub nearer_keeps : (x y : ℕ) → x < 65536 → y < 65536 → 32768 ≤ apart x y → nearer x y ≡ x
unfolding nearer
nearer_keeps x y l k h = rw (ne_eqb x 65536 (λ e. omega arith), ne_eqb y 65536 (λ e. omega arith), le-ltb (apart x y) 32768 h)

pub sum_left : (x y : ℕ) → x ≡ 65536 → sum_modulo x y ≡ 65536
unfolding sum_modulo
sum_left x y h = rw (eq-eqb x 65536 h)

pub sum_right : (x y : ℕ) → x < 65536 → y ≡ 65536 → sum_modulo x y ≡ 65536
unfolding sum_modulo
sum_right x y l h = rw (ne_eqb x 65536 (λ e. omega arith), eq-eqb y 65536 h)

pub sum_both : (x y : ℕ) → x < 65536 → y < 65536 → sum_modulo x y ≡ (x + y) % 65536
unfolding sum_modulo
sum_both x y l k = rw (ne_eqb x 65536 (λ e. omega arith), ne_eqb y 65536 (λ e. omega arith))

-- the difference of numbers less than 32,768 apart is told from their remainders
pub apart_up : (x y : ℕ) → y ≤ x → x < y + 32768 → apart (x % 65536) (y % 65536) ≡ x - y
apart_up x y h k = omega arith

pub apart_down : (x y : ℕ) → x < y → y < x + 32768 → apart (x % 65536) (y % 65536) ≡ 65536 - (y - x)
apart_down x y h k = omega arith

pub signed_apart : (x y : ℕ) → x < y + 32768 → y < x + 32768 → to_z w16 (apart (x % 65536) (y % 65536)) ≡ pos x -ℤ pos y
signed_apart x y h k =
    ⊎_elim
    (λ l.
    let e : 65536 - (y - x) ≡ 65536 - suc (y - x - 1) = omega arith in
    let back : negsuc (y - x - 1) ≡ pos x -ℤ pos y = omega (arith, ints) in
    ap (to_z w16) (apart_down x y l k ∙ e) ∙ to_z-neg w16 (y - x - 1) (omega arith) ∙ back)
    (λ l. ap (to_z w16) (apart_up x y l h) ∙ omega (arith, ints))
    (cases_lt x y)
