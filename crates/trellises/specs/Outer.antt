-- The outer trellis: the convolutional code of rate one half. The state is u_(k-1) + 2 u_(k-2); a stage is a data bit.
use Rattle.std.specs.Prelude.{ℕ, ◌+◌, ◌*◌, ◌/◌, ◌%◌, List, map, ℤ, pos, ◌==◌, slice_index_or}
use Rattle.std.specs.List.{range_with_len}
use Rattle.paths.specs.declared.edges.Edge.{Edge}
use Rattle.paths.specs.Trellises.{Meaning}
use Rattle.trellises.specs.Priors.{penalty}

-- coded bit 2k is u_k + u_(k-2), and coded bit 2k + 1 is u_k + u_(k-1) + u_(k-2), modulo 2
abbrev pub first_coded : ℕ → ℕ → ℕ
first_coded state u = (u + state / 2) % 2

abbrev pub second_coded : ℕ → ℕ → ℕ
second_coded state u = (u + state % 2 + state / 2) % 2

-- word bits 0 and 1 are the coded bits, bit 2 is u_k
abbrev pub outer_word : ℕ → ℕ → ℕ
outer_word state u = first_coded state u + 2 * second_coded state u + 4 * u

abbrev pub outer_cost : List ℤ → ℕ → ℕ → ℕ → ℕ
outer_cost priors k state u = penalty (slice_index_or priors (2 * k) (pos 0)) (first_coded state u) + penalty (slice_index_or priors (2 * k + 1) (pos 0)) (second_coded state u)

abbrev pub outer_edge : List ℤ → ℕ → ℕ → ℕ → Edge
outer_edge priors k state u = record { from = state; to = u + 2 * (state % 2); word = outer_word state u; cost = outer_cost priors k state u }

-- edge i of stage k: by from state, then word, whose order is that of u_k
abbrev pub outer_at : List ℤ → ℕ → ℕ → Edge
outer_at priors k i = outer_edge priors k (i / 2) (i % 2)

-- n data bits: first and last state 0
abbrev pub outer : ℕ → List ℤ → Meaning
outer n priors = record { stages = n; edges = λ k. map (outer_at priors k) (range_with_len 0 8); first = λ s. (s == 0); last = λ s. (s == 0) }
