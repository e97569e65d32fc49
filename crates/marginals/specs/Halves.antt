-- Words taken together by halves, the highest bit first, in the order of the running code.
use Rattle.std.specs.Prelude.{ℕ, zero, suc, ◌+◌, ◌-◌, ◌^◌, List, slice_index_or}
use Rattle.paths.specs.Semirings.{Operations}
use Rattle.paths.specs.Columns.{join_below}

-- what stands at a word
abbrev pub held : {W : Type 0} → Operations W → List W → ℕ → W
held o words w = slice_index_or words w o.none

-- the values of words of b + d bits, when those that agree in their lowest b bits are taken together
unfoldable pub halved : {W : Type 0} → Operations W → (ℕ → W) → ℕ → ℕ → ℕ → W
halved o f b zero x = f x
halved o f b (suc d) x = o.join (halved o f (suc b) d x) (halved o f (suc b) d (2 ^ b + x))

-- the words of so many bits whose bit b is 0, and those whose bit b is 1
abbrev pub lower : {W : Type 0} → Operations W → (ℕ → W) → ℕ → ℕ → W
lower o f bits b = join_below o (2 ^ b) (halved o f (suc b) (bits - suc b))

abbrev pub upper : {W : Type 0} → Operations W → (ℕ → W) → ℕ → ℕ → W
upper o f bits b = join_below o (2 ^ b) (λ x. halved o f (suc b) (bits - suc b) (2 ^ b + x))
