-- The inner trellis: accumulator and symbols. The state is the last accumulated bit; a stage is a symbol.
use Rattle.std.specs.Prelude.{ℕ, zero, suc, ◌+◌, ◌*◌, ◌/◌, ◌%◌, ◌^◌, min, List, map, ℤ, ◌==◌, nat_lt, slice_index}
use Rattle.std.specs.List.{range_with_len}
use Rattle.paths.specs.declared.edges.Edge.{Edge}
use Rattle.paths.specs.Trellises.{Meaning}
use Rattle.trellises.specs.Priors.{bit, penalties}

-- the accumulated bit after n interleaved bits of a word: each is its interleaved bit plus the one before, modulo 2
abbrev pub accumulated : ℕ → ℕ → ℕ → ℕ
accumulated from word zero = from
accumulated from word (suc j) = (bit word j + accumulated from word j) % 2

-- the value of the first n accumulated bits, the first most significant
abbrev pub slot_of : ℕ → ℕ → ℕ → ℕ
slot_of from word zero = 0
slot_of from word (suc j) = 2 * slot_of from word j + accumulated from word (suc j)

-- the cost of a word out of a state: its slot's cost in row k, and the penalties of its interleaved bits
abbrev pub inner_cost : ℕ → List ℕ → List ℤ → ℕ → ℕ → ℕ → ℕ
inner_cost m rows priors k from word = min (slice_index rows (k * 2 ^ m + slot_of from word m)) 255 + penalties priors (k * m) word m

-- the edge of each from state and input word; the word holds the m interleaved bits, the first as bit 0
abbrev pub inner_edge : ℕ → List ℕ → List ℤ → ℕ → ℕ → ℕ → Edge
inner_edge m rows priors k from word = record { from = from; to = accumulated from word m; word = word; cost = inner_cost m rows priors k from word }

-- edge i of stage k: by from state, then word
abbrev pub inner_at : ℕ → List ℕ → List ℤ → ℕ → ℕ → Edge
inner_at m rows priors k i = inner_edge m rows priors k (i / 2 ^ m) (i % 2 ^ m)

-- n symbols of m bits: first state 0, any last state
abbrev pub inner : ℕ → ℕ → List ℕ → List ℤ → Meaning
inner m n rows priors = record { stages = n; edges = λ k. map (inner_at m rows priors k) (range_with_len 0 (2 * 2 ^ m)); first = λ s. (s == 0); last = λ s. nat_lt s 2 }
