use Rattle.std.proofs.Common.{ℕ, ◌%◌}
use native.Mathlib.Nat.{dvd-mod_iff}
use Rattle.plans.specs.Divisors.{GreatestCommon}
use Rattle.plans.proofs.divisor.+common_divisor.Goals as goal

turn : (a b g : ℕ) → GreatestCommon b (a % b) g → GreatestCommon a b g
turn a b g h = record { left = (dvd-mod_iff g h.left).0 h.right; right = h.left; most = λ d p q. h.most d q ((dvd-mod_iff d q).1 p) }

pub returns-else-b-eq0 : goal.returns-else-b-eq0
returns-else-b-eq0 t c = record { value = turn c.args.a c.args.b _ c.common_divisor.ensures.value }
