-- Paths as choices of one edge's number for each stage, by which each path is told from all others.
use Rattle.std.specs.Prelude.{◌≡◌, ℕ, zero, suc, ◌+◌, ◌-◌, ◌<◌, Bool, true, false, cond, List, [], ◌∷◌, ◌++◌, map, length, Some, ◌==◌, slice_index}
use Rattle.std.specs.List.{flat_map, slice_get}
use Rattle.paths.specs.declared.edges.Edge.{Edge}
use Rattle.paths.specs.Trellises.{Meaning, Lawful}
use Rattle.paths.specs.Paths.{states_below, paths}

-- c names one edge of each stage, each starts where the one before ended, from a first state to a last state
pub record IsPath (m : Meaning) (c : List ℕ) : Type 0 where
  pub edge : ℕ → Edge
  pub long : length c ≡ m.stages
  pub named : (k : ℕ) → k < m.stages → slice_get (m.edges k) (slice_index c k) ≡ Some (edge k)
  pub starts : m.first (edge 0).from ≡ true
  pub chains : (k : ℕ) → suc k < m.stages → (edge k).to ≡ (edge (suc k)).from
  pub ends : m.last (edge (m.stages - 1)).to ≡ true

-- what h makes of each edge and its number, one after another
abbrev pub numbered : {A : Type 0} → (ℕ → Edge → List A) → ℕ → List Edge → List A
numbered h i [] = []
numbered h i (e ∷ es) = h i e ++ numbered h (suc i) es

-- the walks, by the numbers of their edges
unfoldable pub numbered_walks : (ℕ → List Edge) → (ℕ → Bool) → ℕ → ℕ → ℕ → List (List ℕ)
numbered_walks edges stop k zero s = cond (stop s) ([] ∷ []) []
numbered_walks edges stop k (suc n) s = numbered (λ i e. cond (e.from == s) (map (◌∷◌ i) (numbered_walks edges stop (suc k) n e.to)) []) 0 (edges k)

abbrev pub choices : ℕ → Meaning → List (List ℕ)
choices states m = flat_map (λ s. cond (m.first s) (numbered_walks m.edges m.last 0 m.stages s) []) (states_below states)

abbrev pub same : List ℕ → List ℕ → Bool
same [] [] = true
same [] (y ∷ ys) = false
same (x ∷ xs) [] = false
same (x ∷ xs) (y ∷ ys) = cond (x == y) (same xs ys) false

-- how often c stands in a list
abbrev pub occurrences : List ℕ → List (List ℕ) → ℕ
occurrences c [] = 0
occurrences c (d ∷ ds) = cond (same c d) 1 0 + occurrences c ds

abbrev pub pick : {A : Type 0} → List A → ℕ → List A
pick [] i = []
pick (x ∷ xs) zero = x ∷ []
pick (x ∷ xs) (suc i) = pick xs i

-- the edges that a choice names, from stage k on
abbrev pub edges_of : (ℕ → List Edge) → ℕ → List ℕ → List Edge
edges_of edges k [] = []
edges_of edges k (i ∷ c) = pick (edges k) i ++ edges_of edges (suc k) c

-- the list of paths is exactly right: each choice that is a path occurs once, any other not at all, and the paths are these
-- choices by their edges
pub record ExactPaths (states : ℕ) (m : Meaning) : Type 0 where
  pub once : (c : List ℕ) → IsPath m c → occurrences c (choices states m) ≡ 1
  pub never : (c : List ℕ) → (IsPath m c → ⊥) → occurrences c (choices states m) ≡ 0
  pub by_edges : paths states m ≡ map (edges_of m.edges 0) (choices states m)

abbrev pub PathsAreExact : Type 0
PathsAreExact = (states ceiling bits : ℕ) (m : Meaning) → Lawful states ceiling bits m → ExactPaths states m
