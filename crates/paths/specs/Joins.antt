-- Joins in some order and grouping, and the candidates of a stage's edges.
use Rattle.std.specs.Prelude.{◌≡◌, ℕ, suc, ◌<◌, Bool, true, false, ◌||◌, List, Some, None, Option, ◌≢◌}
use Rattle.std.specs.List.{slice_get}
use Rattle.paths.specs.declared.edges.Edge.{Edge}
use Rattle.paths.specs.Semirings.{Operations, Semiring}
use Rattle.paths.specs.Trellises.{Meaning, Lawful}
use Rattle.paths.specs.Paths.{bit_is, path_join, paths_with}
use Rattle.paths.specs.Columns.{forward, backward}

-- x is made of the values of f at the places that pass, each once, by joins in some order and grouping
pub data Joins {W : Type 0} (o : Operations W) (f : ℕ → W) : (ℕ → Bool) → W → Type 0 where
  nothing : (pass : ℕ → Bool) → ((i : ℕ) → pass i ≡ false) → Joins o f pass o.none
  single : (pass : ℕ → Bool) (i : ℕ) → pass i ≡ true → ((j : ℕ) → pass j ≡ true → j ≡ i) → Joins o f pass (f i)
  both : (left right pass : ℕ → Bool) (x y : W) → Joins o f left x → Joins o f right y → ((i : ℕ) → left i ≡ true → right i ≢ true) → ((i : ℕ) → pass i ≡ (left i || right i)) → Joins o f pass (o.join x y)

-- what edge i of a stage offers, between a column before it and a column after it
abbrev pub offered : {W : Type 0} → Operations W → (ℕ → W) → (ℕ → W) → Option Edge → W
offered o f b None = o.none
offered o f b (Some e) = o.chain (o.chain (f e.from) (b e.to)) (o.value e.cost)

abbrev pub candidate : {W : Type 0} → Operations W → (ℕ → W) → (ℕ → W) → List Edge → ℕ → W
candidate o f b es i = offered o f b (slice_get es i)

-- edge i is there, and bit b of its word is v
abbrev pub has_bit : ℕ → ℕ → Option Edge → Bool
has_bit b v None = false
has_bit b v (Some e) = bit_is b v e

abbrev pub edges_with : List Edge → ℕ → ℕ → ℕ → Bool
edges_with es b v i = has_bit b v (slice_get es i)

-- joined in whatever order, the candidates whose bit is v give the join over all paths with that bit
abbrev pub BitsAreJoins : {W : Type 0} → (W → Type 0) → Operations W → Type 0
BitsAreJoins {W} fine o = Semiring fine o → (states ceiling bits : ℕ) (m : Meaning) → Lawful states ceiling bits m → (k b v : ℕ) → k < m.stages → (x : W)
    → Joins o (candidate o (forward o states m k) (backward o states m (suc k)) (m.edges k)) (edges_with (m.edges k) b v) x
    → x ≡ path_join o (paths_with states m k b v)
