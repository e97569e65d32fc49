-- The bits of a stage: what the two costs of each are, and how near they lie.
use Rattle.std.proofs.Common.{◌≡◌, ℕ, ◌+◌, ◌*◌, ◌<◌, ◌≤◌, List, get_or, ℤ, None, Option, sym, subst}
use Rattle.paths.specs.Trellises.{Meaning}
use Rattle.paths.specs.Paths.{path_join, paths_with}
use Rattle.paths.specs.Least.{least, top, FineCost}
use Rattle.paths.specs.LeastLaws.{least_laws}
use Rattle.paths.proofs.Carried.{joins_fine}
use Rattle.modulo.specs.Modulo.{reliability}
use Rattle.modulo.specs.Spread.{Connected}
use Rattle.modulo.proofs.Bits.{bits_near}
use Rattle.reliabilities.specs.Bounds.{Bounded}
use Rattle.reliabilities.proofs.Bounds.{near_bounded}

-- the least cost with bit b of stage k at v
abbrev pub bit_cost : ℕ → Meaning → ℕ → ℕ → ℕ → ℕ
bit_cost states m k b v = path_join least (paths_with states m k b v)

low : (states : ℕ) (m : Meaning) (k b v : ℕ) → bit_cost states m k b v ≤ top
low states m k b v = joins_fine {fine = FineCost} least_laws (paths_with states m k b v)

-- a list holds the true reliabilities of so many bits
abbrev pub TrueBits : ℕ → Meaning → ℕ → ℕ → List (Option ℤ) → Type 0
TrueBits states m k bits out = (b : ℕ) → b < bits → get_or out b None ≡ reliability (bit_cost states m k b 0) (bit_cost states m k b 1)

-- the true reliability is small
pub told_bounded : {states ceiling bits reach : ℕ} (m : Meaning) → Connected states ceiling bits reach m → (k b : ℕ) → k < m.stages
    → (r : Option ℤ) → r ≡ reliability (bit_cost states m k b 0) (bit_cost states m k b 1) → Bounded ((2 * reach + 1) * ceiling) r
told_bounded {states} {ceiling} {bits} {reach} m h k b here r is =
    subst (Bounded ((2 * reach + 1) * ceiling)) (sym is)
    (near_bounded _ _ _ (low states m k b 0) (low states m k b 1) (bits_near states ceiling bits reach m h k b here))
