-- What holds of every lawful trellis and every semiring.
use Rattle.std.specs.Prelude.{◌≡◌, ℕ, suc, ◌+◌, ◌*◌, ◌^◌, ◌<◌, ◌≤◌, min, Bool, cond, List, [], ◌∷◌, filter}
use Rattle.paths.specs.declared.edges.Edge.{Edge}
use Rattle.paths.specs.Semirings.{Operations, Semiring}
use Rattle.paths.specs.Trellises.{Meaning, Lawful}
use Rattle.paths.specs.Paths.{states_below, paths, before, after, across, join_over, path_join, at_stage}
use Rattle.paths.specs.Metastages.{Matrix, of_stage, product, single_stages, merges, first_to_last, level_size, level_start, covers_from}
use Rattle.paths.specs.Columns.{parallel, forward, backward}

-- the columns that the passes compute are joins over walks
pub record ColumnsAt {W : Type 0} (o : Operations W) (states : ℕ) (m : Meaning) : Type 0 where
  pub stage : (k s t : ℕ) → parallel o (m.edges k) s t ≡ of_stage o (m.edges k) s t
  pub forth : (k s : ℕ) → k ≤ m.stages → s < states → forward o states m k s ≡ path_join o (before states m k s)
  pub back : (k s : ℕ) → k ≤ m.stages → s < states → backward o states m k s ≡ path_join o (after m k s)
  pub answer : join_over o (λ t. cond (m.last t) (path_join o (before states m m.stages t)) o.none) (states_below states) ≡ path_join o (paths states m)

abbrev pub ColumnsAreJoins : {W : Type 0} → (W → Type 0) → Operations W → Type 0
ColumnsAreJoins {W} fine o = Semiring fine o → (states ceiling bits : ℕ) (m : Meaning) → Lawful states ceiling bits m → ColumnsAt o states m

-- an edge between what leads to it and what leads on from it
abbrev pub between : {W : Type 0} → Operations W → ℕ → Meaning → ℕ → Edge → W
between o states m k e = o.chain (o.chain (path_join o (before states m k e.from)) (o.value e.cost)) (path_join o (after m (suc k) e.to))

-- the paths whose edge in stage k passes a test, by the edges of that stage
abbrev pub MarginalsAreJoins : {W : Type 0} → (W → Type 0) → Operations W → Type 0
MarginalsAreJoins {W} fine o = Semiring fine o → (states ceiling bits : ℕ) (m : Meaning) → Lawful states ceiling bits m → (k : ℕ) → k < m.stages → (test : Edge → Bool)
    → path_join o (filter (at_stage k test) (paths states m)) ≡ join_over o (between o states m k) (filter test (m.edges k))

-- however neighbours are made one until one is left, it holds the join over all paths
abbrev pub GroupingsAgree : {W : Type 0} → (W → Type 0) → Operations W → Type 0
GroupingsAgree {W} fine o = Semiring fine o → (states ceiling bits : ℕ) (m : Meaning) → Lawful states ceiling bits m → (places : List ℕ) (x : Matrix W)
    → merges (product o states) places (single_stages o m) ≡ x ∷ []
    → ((s t : ℕ) → s < states → t < states → x s t ≡ path_join o (across m 0 m.stages s t)) × (first_to_last o states m x ≡ path_join o (paths states m))

-- the walks across neighbouring ranges of stages make those across both: what two metastages give when they are made one
abbrev pub ProductsAreJoins : {W : Type 0} → (W → Type 0) → Operations W → Type 0
ProductsAreJoins {W} fine o = Semiring fine o → (states ceiling bits : ℕ) (m : Meaning) → Lawful states ceiling bits m → (a b c : ℕ) → a ≤ b → b ≤ c → c ≤ m.stages → (s t : ℕ) → s < states → t < states
    → join_over o (λ v. o.chain (path_join o (across m a b s v)) (path_join o (across m b c v t))) (states_below states) ≡ path_join o (across m a c s t)

-- the metastages of all levels fit, level 14 is the last for 16,384 stages, metastage j of level l covers the 2^l stages from j * 2^l on,
-- and those of a level cover all stages
pub record LevelLaws : Type 0 where
  pub fits : (n l states : ℕ) → l ≤ 14 → level_size n l ≡ 1 → level_start n (suc l) * (states * states) ≤ (2 * n + 14) * (states * states)
  pub fourteen : (n l : ℕ) → n ≤ 16384 → 14 ≤ l → level_size n l ≤ 1
  pub begins : (n l j : ℕ) → covers_from n l j ≡ min (j * 2 ^ l) n
  pub ends : (n l : ℕ) → covers_from n l (level_size n l) ≡ n
