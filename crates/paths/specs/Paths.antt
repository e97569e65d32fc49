-- The paths of a trellis, their weights, and joins over them.
use Rattle.std.specs.Prelude.{ℕ, zero, suc, ◌-◌, ◌/◌, ◌%◌, ◌^◌, Bool, false, cond, List, [], ◌∷◌, map, filter, ◌==◌, nat_eq}
use Rattle.std.specs.List.{flat_map}
use Rattle.paths.specs.declared.edges.Edge.{Edge}
use Rattle.paths.specs.Semirings.{Operations}
use Rattle.paths.specs.Trellises.{Meaning}

-- the states below n, the highest first
abbrev pub states_below : ℕ → List ℕ
states_below zero = []
states_below (suc n) = n ∷ states_below n

-- the walks of n stages from stage k on, out of state s, into a state where they may stop: one edge of each stage, each
-- starting where the one before ended
unfoldable pub walks : (ℕ → List Edge) → (ℕ → Bool) → ℕ → ℕ → ℕ → List (List Edge)
walks edges stop k zero s = cond (stop s) ([] ∷ []) []
walks edges stop k (suc n) s = flat_map (λ e. cond (e.from == s) (map (◌∷◌ e) (walks edges stop (suc k) n e.to)) []) (edges k)

-- the walks of the first n stages out of a first state
abbrev pub started : ℕ → Meaning → (ℕ → Bool) → ℕ → List (List Edge)
started states m stop n = flat_map (λ s. cond (m.first s) (walks m.edges stop 0 n s) []) (states_below states)

-- the paths: through all stages, from a first state to a last state
abbrev pub paths : ℕ → Meaning → List (List Edge)
paths states m = started states m m.last m.stages

-- the walks of the first k stages that end in s
abbrev pub before : ℕ → Meaning → ℕ → ℕ → List (List Edge)
before states m k s = started states m (λ v. nat_eq v s) k

-- the walks of the stages from k on, out of s, to a last state
abbrev pub after : Meaning → ℕ → ℕ → List (List Edge)
after m k s = walks m.edges m.last k (m.stages - k) s

-- the walks of the stages from a on and before b, from s to t
abbrev pub across : Meaning → ℕ → ℕ → ℕ → ℕ → List (List Edge)
across m a b s t = walks m.edges (λ v. nat_eq v t) a (b - a) s

-- a path's weight is the chain of its edges' costs
unfoldable pub weight : {W : Type 0} → Operations W → List Edge → W
weight o [] = o.unit
weight o (e ∷ es) = o.chain (o.value e.cost) (weight o es)

-- the join of f over a list; of nothing it is none
unfoldable pub join_over : {W A : Type 0} → Operations W → (A → W) → List A → W
join_over o f [] = o.none
join_over o f (x ∷ xs) = o.join (f x) (join_over o f xs)

-- the join of the weights of these paths
abbrev pub path_join : {W : Type 0} → Operations W → List (List Edge) → W
path_join o ps = join_over o (weight o) ps

-- the edge that a path takes in stage k passes a test
abbrev pub at_stage : ℕ → (Edge → Bool) → List Edge → Bool
at_stage k test [] = false
at_stage zero test (e ∷ p) = test e
at_stage (suc k) test (e ∷ p) = at_stage k test p

-- bit b of the edge's word is v
abbrev pub bit_is : ℕ → ℕ → Edge → Bool
bit_is b v e = (e.word / 2 ^ b) % 2 == v

-- the paths on which bit b of stage k's word is v
abbrev pub paths_with : ℕ → Meaning → ℕ → ℕ → ℕ → List (List Edge)
paths_with states m k b v = filter (at_stage k (bit_is b v)) (paths states m)
