-- How far the least costs of a stage lie apart, and that numbers modulo 65,536 therefore suffice.
use Rattle.std.specs.Prelude.{◌≡◌, ℕ, suc, ◌+◌, ◌*◌, ◌<◌, ◌≤◌}
use Rattle.paths.specs.Trellises.{Meaning, Lawful, Reaches}
use Rattle.paths.specs.Paths.{path_join, paths_with}
use Rattle.paths.specs.Columns.{forward, backward}
use Rattle.paths.specs.Joins.{Joins, candidate, edges_with}
use Rattle.paths.specs.Least.{least, top}
use Rattle.modulo.specs.Modulo.{modulo, Stands, reliability, reliability_modulo}

-- a trellis in which every state is reached from every state, and in which no path of 16,384 stages costs 2^31
pub record Connected (states ceiling bits reach : ℕ) (m : Meaning) : Type 0 where
  pub lawful : Lawful states ceiling bits m
  pub reaches : Reaches states reach m
  pub some_reach : 1 ≤ reach
  pub low_ceiling : ceiling < 131072

-- one whose costs are so low that numbers modulo 65,536 serve it
pub record Served (states ceiling bits reach : ℕ) (m : Meaning) : Type 0 where
  pub connected : Connected states ceiling bits reach m
  pub modest : (2 * reach + 1) * ceiling < 32768

-- some reach, and with it a ceiling so low that numbers modulo 65,536 serve every trellis that has them
abbrev pub IsModest : ℕ → ℕ → Type 0
IsModest reach ceiling = (1 ≤ reach) × ((2 * reach + 1) * ceiling < 32768)

-- the finite entries of one column lie within reach * ceiling of each other
pub record SpreadAt (states spread : ℕ) (column : ℕ → ℕ) : Type 0 where
  pub near : (s t : ℕ) → s < states → t < states → column s < top → column t < top → column s ≤ column t + spread

abbrev pub ColumnsSpread : Type 0
ColumnsSpread = (states ceiling bits reach : ℕ) (m : Meaning) → Connected states ceiling bits reach m → (k : ℕ) → k ≤ m.stages
    → SpreadAt states (reach * ceiling) (forward least states m k) × SpreadAt states (reach * ceiling) (backward least states m k)

-- each entry of the modulo columns stands for the least cost
abbrev pub ColumnsStand : Type 0
ColumnsStand = (states ceiling bits reach : ℕ) (m : Meaning) → Served states ceiling bits reach m → (k s : ℕ) → k ≤ m.stages → s < states
    → Stands (forward least states m k s) (forward modulo states m k s) × Stands (backward least states m k s) (backward modulo states m k s)

-- the least costs with a bit 0 and 1 lie within (2 * reach + 1) * ceiling of each other
pub record Near (d zero_cost one_cost : ℕ) : Type 0 where
  pub zero_near : zero_cost < top → one_cost < top → zero_cost ≤ one_cost + d
  pub one_near : zero_cost < top → one_cost < top → one_cost ≤ zero_cost + d

abbrev pub BitsNear : Type 0
BitsNear = (states ceiling bits reach : ℕ) (m : Meaning) → Connected states ceiling bits reach m → (k b : ℕ) → k < m.stages
    → Near ((2 * reach + 1) * ceiling) (path_join least (paths_with states m k b 0)) (path_join least (paths_with states m k b 1))

-- with so low a ceiling the two differ by less than 2^31, whatever the reach
abbrev pub BitsFit : Type 0
BitsFit = (states ceiling bits : ℕ) (m : Meaning) → Lawful states ceiling bits m → ceiling < 131072 → (k b : ℕ) → k < m.stages
    → Near 2147483647 (path_join least (paths_with states m k b 0)) (path_join least (paths_with states m k b 1))

-- candidates in numbers modulo 65,536, joined in whatever order, give the true reliability of the bit
abbrev pub BitsStand : Type 0
BitsStand = (states ceiling bits reach : ℕ) (m : Meaning) → Served states ceiling bits reach m → (k b : ℕ) → k < m.stages → (x y : ℕ)
    → Joins modulo (candidate modulo (forward modulo states m k) (backward modulo states m (suc k)) (m.edges k)) (edges_with (m.edges k) b 0) x
    → Joins modulo (candidate modulo (forward modulo states m k) (backward modulo states m (suc k)) (m.edges k)) (edges_with (m.edges k) b 1) y
    → reliability_modulo x y ≡ reliability (path_join least (paths_with states m k b 0)) (path_join least (paths_with states m k b 1))
