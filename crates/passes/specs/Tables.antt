-- The table of a pass: where columns and metastages lie, and what stands there.
use Rattle.std.specs.Prelude.{◌≡◌, ℕ, ◌+◌, ◌*◌, ◌<◌, ◌≤◌, ◌⊎◌, List, slice_index_or, Option, MatchOption}
use Rattle.paths.specs.Semirings.{Operations}
use Rattle.paths.specs.Trellises.{Meaning}
use Rattle.paths.specs.Columns.{parallel, join_below, forward, backward}

-- place p is none of the w from a on
abbrev pub Outside : ℕ → ℕ → ℕ → Type 0
Outside a w p = (p < a) ⊎ (a + w ≤ p)

-- place p is none of those from a on and before b
abbrev pub Beside : ℕ → ℕ → ℕ → Type 0
Beside a b p = (p < a) ⊎ (b ≤ p)

-- outside the w places from a on the second table has what the first has
abbrev pub Kept : {W : Type 0} → Operations W → ℕ → ℕ → List W → List W → Type 0
Kept o a w old new = (p : ℕ) → Outside a w p → slice_index_or new p o.none ≡ slice_index_or old p o.none

-- n + 1 columns of an entry for each state
abbrev pub columns_size : ℕ → ℕ → ℕ
columns_size states n = n * states + states

-- entry s of the forward column after k stages, and of the backward column of the stages from k on
abbrev pub forward_at : ℕ → ℕ → ℕ → ℕ
forward_at states k s = k * states + s

abbrev pub backward_at : ℕ → ℕ → ℕ → ℕ → ℕ
backward_at states n k s = columns_size states n + (k * states + s)

-- entry x, y of the metastage of stage k
abbrev pub stage_at : ℕ → ℕ → ℕ → ℕ → ℕ → ℕ
stage_at base states k x y = base + k * (states * states) + (x * states + y)

-- each stage's metastage stands: its parallel edges joined first
abbrev pub Stages : {W : Type 0} → Operations W → ℕ → Meaning → ℕ → List W → Type 0
Stages o states m base tb = (k x y : ℕ) → k < m.stages → x < states → y < states → slice_index_or tb (stage_at base states k x y) o.none ≡ parallel o (m.edges k) x y

-- the forward columns stand, and the backward columns
abbrev pub Forward : {W : Type 0} → Operations W → ℕ → Meaning → List W → Type 0
Forward o states m tb = (k s : ℕ) → k ≤ m.stages → s < states → slice_index_or tb (forward_at states k s) o.none ≡ forward o states m k s

abbrev pub Backward : {W : Type 0} → Operations W → ℕ → Meaning → List W → Type 0
Backward o states m tb = (k s : ℕ) → k ≤ m.stages → s < states → slice_index_or tb (backward_at states m.stages k s) o.none ≡ backward o states m k s

-- over the states x: entry x from `from` on chained with every row-th entry from `meta` on
abbrev pub dotted : {W : Type 0} → Operations W → ℕ → List W → ℕ → ℕ → ℕ → W
dotted o states tb from meta row = join_below o states (λ x. o.chain (slice_index_or tb (from + x) o.none) (slice_index_or tb (meta + x * row) o.none))

-- the place behind n metastages: as it was, or the same as in the place of stage a
abbrev pub Spare : {W : Type 0} → Operations W → ℕ → ℕ → Option ℕ → List W → List W → Type 0
Spare o states n x old new = MatchOption x
    ((p : ℕ) → n * (states * states) ≤ p → slice_index_or new p o.none ≡ slice_index_or old p o.none)
    (λ a. (x y : ℕ) → x < states → y < states → slice_index_or new (stage_at 0 states n x y) o.none ≡ slice_index_or new (stage_at 0 states a x y) o.none)
