-- The words of a stage's edges, and what an edge offers by the frame of its states.
use Rattle.std.specs.Prelude.{ℕ, ◌+◌, ◌*◌, ◌%◌, ◌^◌, Bool, false, List, Some, None, Option, nat_eq, slice_index_or}
use Rattle.std.specs.List.{slice_get}
use Rattle.paths.specs.declared.edges.Edge.{Edge}
use Rattle.paths.specs.Semirings.{Operations}
use Rattle.marginals.specs.declared.room.ByBit.{ByBit}

-- edge i is there, and passes a test
abbrev pub passes : (Edge → Bool) → Option Edge → Bool
passes test None = false
passes test (Some e) = test e

abbrev pub picked : List Edge → (Edge → Bool) → ℕ → Bool
picked es test i = passes test (slice_get es i)

-- edge i is there, and its word is w
abbrev pub word_is : List Edge → ℕ → ℕ → Bool
word_is es w = picked es (λ e. nat_eq e.word w)

-- edge i is there, and the lowest n bits of its word are x
abbrev pub word_below : List Edge → ℕ → ℕ → ℕ → Bool
word_below es n x = picked es (λ e. nat_eq (e.word % 2 ^ n) x)

-- what a column holds at a state
abbrev pub entry_of : {W : Type 0} → Operations W → List W → ℕ → W
entry_of o column s = slice_index_or column s o.none

-- no path with a bit 0, and none with it 1
abbrev pub neither : {W : Type 0} → Operations W → ByBit W
neither o = record { zero = o.none; one = o.none }

-- what edge i offers, where a frame has the chained values of the states before and after, a row for each state before
abbrev pub offered_in : {W : Type 0} → Operations W → ℕ → List W → Option Edge → W
offered_in o states frame None = o.none
offered_in o states frame (Some e) = o.chain (slice_index_or frame (e.from * states + e.to) o.none) (o.value e.cost)

abbrev pub framed : {W : Type 0} → Operations W → ℕ → List W → List Edge → ℕ → W
framed o states frame es i = offered_in o states frame (slice_get es i)
