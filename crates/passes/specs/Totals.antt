-- What the totals join, for any operations, in the order of the running code.
use Rattle.std.specs.Prelude.{ℕ, ◌+◌, ◌*◌, cond, List, nat_eq, slice_index_or, slice_range}
use Rattle.paths.specs.declared.edges.Edge.{Edge}
use Rattle.paths.specs.Semirings.{Operations}
use Rattle.paths.specs.Trellises.{Meaning}
use Rattle.paths.specs.Columns.{gathered, join_below}

-- a column's entries in last states
abbrev pub in_last : {W : Type 0} → Operations W → ℕ → Meaning → List W → W
in_last o states m column = join_below o states (λ s. cond (m.last s) (slice_index_or column s o.none) o.none)

-- a metastage's entries from first to last states, row by row
abbrev pub from_first : {W : Type 0} → Operations W → ℕ → Meaning → List W → W
from_first o states m metastage = join_below o states (λ s. cond (m.first s) (in_last o states m (slice_range metastage (s * states) ((s + 1) * states))) o.none)

-- entry s of the next column, edge by edge
abbrev pub by_edges : {W : Type 0} → Operations W → List W → List Edge → ℕ → W
by_edges o column es s = gathered o (λ e. nat_eq e.to s) (λ e. o.chain (slice_index_or column e.from o.none) (o.value e.cost)) o.none es
