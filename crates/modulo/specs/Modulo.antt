-- The least cost in numbers modulo 65,536, judged by signed difference; none is 65,536 itself.
use Rattle.std.specs.Prelude.{◌≡◌, ℕ, ◌+◌, ◌-◌, ◌%◌, ◌<◌, cond, ◌⊎◌, ℤ, pos, ◌-ℤ◌, Some, None, Option, ◌==◌, nat_lt}
use Rattle.std.proofs.Common.{to_z}
use Rattle.std.specs.Int.{w16}
use Rattle.paths.specs.Semirings.{Operations}
use Rattle.paths.specs.Least.{top}

-- x less y modulo 65,536
abbrev pub apart : ℕ → ℕ → ℕ
apart x y = (x + 65536 - y % 65536) % 65536

-- the nearer of two: y where x less y, as a signed number, is not below 0
unfoldable pub nearer : ℕ → ℕ → ℕ
nearer x y = cond (x == 65536) y (cond (y == 65536) x (cond (nat_lt (apart x y) 32768) y x))

unfoldable pub sum_modulo : ℕ → ℕ → ℕ
sum_modulo x y = cond (x == 65536) 65536 (cond (y == 65536) 65536 ((x + y) % 65536))

abbrev pub modulo : Operations ℕ
modulo = record { none = 65536; unit = 0; value = λ c. c % 65536; join = nearer; chain = sum_modulo }

-- y stands for the least cost x
abbrev pub Stands : ℕ → ℕ → Type 0
Stands x y = ((x ≡ top) × (y ≡ 65536)) ⊎ ((x < top) × (y ≡ x % 65536))

-- the reliability of a bit: the least cost with it 0 less the least cost with it 1; none where it is forced
unfoldable pub reliability : ℕ → ℕ → Option ℤ
reliability zero_cost one_cost = cond (zero_cost == top) None (cond (one_cost == top) None (Some (pos zero_cost -ℤ pos one_cost)))

-- the same read from numbers modulo 65,536
unfoldable pub reliability_modulo : ℕ → ℕ → Option ℤ
reliability_modulo zero_cost one_cost = cond (zero_cost == 65536) None (cond (one_cost == 65536) None (Some (to_z w16 (apart zero_cost one_cost))))
