-- Metastages: the joins from state to state over one stage or over neighbours made one, and groupings of neighbours.
use Rattle.std.specs.Prelude.{ℕ, zero, suc, ◌+◌, ◌*◌, ◌/◌, min, cond, List, [], ◌∷◌, map, ◌==◌}
use Rattle.paths.specs.declared.edges.Edge.{Edge}
use Rattle.paths.specs.Semirings.{Operations}
use Rattle.paths.specs.Trellises.{Meaning}
use Rattle.paths.specs.Paths.{join_over, states_below}

-- entry s, t of a metastage
abbrev pub Matrix : Type 0 → Type 0
Matrix W = ℕ → ℕ → W

-- the metastage of one stage joins, in entry s, t, its edges from s to t
abbrev pub of_stage : {W : Type 0} → Operations W → List Edge → Matrix W
of_stage o es s t = join_over o (λ e. cond (e.from == s) (cond (e.to == t) (o.value e.cost) o.none) o.none) es

-- two neighbours make one: over every state between, the earlier's entry chained with the later's
abbrev pub product : {W : Type 0} → Operations W → ℕ → Matrix W → Matrix W → Matrix W
product o states x y s t = join_over o (λ v. o.chain (x s v) (y v t)) (states_below states)

-- n numbers from k on
abbrev pub stages_from : ℕ → ℕ → List ℕ
stages_from k zero = []
stages_from k (suc n) = k ∷ stages_from (suc k) n

-- the metastages of all stages
abbrev pub single_stages : {W : Type 0} → Operations W → Meaning → List (Matrix W)
single_stages o m = map (λ k. of_stage o (m.edges k)) (stages_from 0 m.stages)

-- the two neighbours at place i become one
abbrev pub merged : {A : Type 0} → (A → A → A) → ℕ → List A → List A
merged op i [] = []
merged op i (x ∷ []) = x ∷ []
merged op zero (x ∷ y ∷ rest) = op x y ∷ rest
merged op (suc i) (x ∷ y ∷ rest) = x ∷ merged op i (y ∷ rest)

-- a grouping: one such step after another, at these places
abbrev pub merges : {A : Type 0} → (A → A → A) → List ℕ → List A → List A
merges op [] xs = xs
merges op (i ∷ is) xs = merges op is (merged op i xs)

-- a metastage of all stages, from first to last states
abbrev pub first_to_last : {W : Type 0} → Operations W → ℕ → Meaning → Matrix W → W
first_to_last o states m x = join_over o (λ s. cond (m.first s) (join_over o (λ t. cond (m.last t) (x s t) o.none) (states_below states)) o.none) (states_below states)

-- level l has so many metastages: the stages themselves, then each level's neighbours in pairs, a last odd one again
unfoldable pub level_size : ℕ → ℕ → ℕ
level_size n zero = n
level_size n (suc l) = (level_size n l + 1) / 2

-- how many the levels below l have
unfoldable pub level_start : ℕ → ℕ → ℕ
level_start n zero = 0
level_start n (suc l) = level_start n l + level_size n l

-- where metastage j of level l lies in a table that has its metastages from `base` on
abbrev pub metastage_at : ℕ → ℕ → ℕ → ℕ → ℕ → ℕ
metastage_at base states n l j = base + (level_start n l + j) * (states * states)

-- the first stage that metastage j of level l covers; it covers those before the first of metastage j + 1
unfoldable pub covers_from : ℕ → ℕ → ℕ → ℕ
covers_from n zero j = min j n
covers_from n (suc l) j = covers_from n l (2 * j)
