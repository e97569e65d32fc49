-- What a pass computes, for any operations, lawful or not, in the order of the running code.
use Rattle.std.specs.Prelude.{ℕ, zero, suc, ◌-◌, Bool, cond, ◌&&◌, List, [], ◌∷◌, ◌==◌}
use Rattle.paths.specs.declared.edges.Edge.{Edge}
use Rattle.paths.specs.Semirings.{Operations}
use Rattle.paths.specs.Trellises.{Meaning, reversed}

-- the values of the edges that pass a test, joined to a in their order
unfoldable pub gathered : {W : Type 0} → Operations W → (Edge → Bool) → (Edge → W) → W → List Edge → W
gathered o test v a [] = a
gathered o test v a (e ∷ es) = gathered o test v (cond (test e) (o.join a (v e)) a) es

-- the edges of a stage from s to t
abbrev pub parallel : {W : Type 0} → Operations W → List Edge → ℕ → ℕ → W
parallel o es s t = gathered o (λ e. (e.from == s) && e.to == t) (λ e. o.value e.cost) o.none es

-- the values of f at the numbers below n, joined in their order
unfoldable pub join_below : {W : Type 0} → Operations W → ℕ → (ℕ → W) → W
join_below o zero f = o.none
join_below o (suc n) f = o.join (join_below o n f) (f n)

-- forward: entry s of the column after the first k stages, parallel edges joined first
unfoldable pub forward : {W : Type 0} → Operations W → ℕ → Meaning → ℕ → ℕ → W
forward o states m zero s = cond (m.first s) o.unit o.none
forward o states m (suc k) t = join_below o states (λ s. o.chain (forward o states m k s) (parallel o (m.edges k) s t))

-- backward: entry s of the column of the stages from k on, which is a forward column of the reversal
abbrev pub backward : {W : Type 0} → Operations W → ℕ → Meaning → ℕ → ℕ → W
backward o states m k s = forward o states (reversed m) (m.stages - k) s
