-- What is kept of a least cost, and what it means that a bit's reliability is told from what is kept.
use Rattle.std.specs.Prelude.{◌≡◌, ℕ, suc, ◌%◌, ◌<◌, cond, ℤ, Option, ◌==◌}
use Rattle.paths.specs.Semirings.{Operations}
use Rattle.paths.specs.Trellises.{Meaning, Lawful, Reaches}
use Rattle.paths.specs.Paths.{path_join, paths_with, before, after}
use Rattle.paths.specs.Joins.{Joins, candidate, edges_with}
use Rattle.paths.specs.Least.{least, top}
use Rattle.modulo.specs.Modulo.{reliability}

-- the number modulo 65,536: of the cost of what cannot be, 65,536 itself
unfoldable pub kept_modulo : ℕ → ℕ
kept_modulo x = cond (x == top) 65536 (x % 65536)

-- between columns f and g that keep the least costs before and after stage k, the joins x and y of what the edges with bit b at 0
-- and at 1 offer tell the true reliability of that bit
abbrev pub Tells : Operations ℕ → (ℕ → ℕ) → (ℕ → ℕ → Type 0) → (ℕ → ℕ → Type 0) → (ℕ → ℕ → Option ℤ) → Type 0
Tells o kept Serves CanTell told =
    (states ceiling bits reach : ℕ) (m : Meaning) → Lawful states ceiling bits m → Reaches states reach m → Serves reach ceiling → (k : ℕ) → k < m.stages
    → (f g : ℕ → ℕ) → ((s : ℕ) → s < states → f s ≡ kept (path_join least (before states m k s))) → ((s : ℕ) → s < states → g s ≡ kept (path_join least (after m (suc k) s)))
    → (b x y : ℕ) → Joins o (candidate o f g (m.edges k)) (edges_with (m.edges k) b 0) x → Joins o (candidate o f g (m.edges k)) (edges_with (m.edges k) b 1) y
    → CanTell x y × (told x y ≡ reliability (path_join least (paths_with states m k b 0)) (path_join least (paths_with states m k b 1)))
