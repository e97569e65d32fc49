-- What a bit costs by its prior: the number told of it, positive where one is likelier.
use Rattle.std.specs.Prelude.{ℕ, zero, suc, ◌+◌, ◌/◌, ◌%◌, ◌^◌, min, List, ℤ, pos, negsuc, slice_index_or}

-- a bit with prior L costs max(0, L) as zero and max(0, -L) as one; a prior is first held within -511 to 511
abbrev pub penalty : ℤ → ℕ → ℕ
penalty (pos n) zero = min n 511
penalty (negsuc n) zero = 0
penalty (pos n) (suc b) = 0
penalty (negsuc n) (suc b) = min (n + 1) 511

-- bit j of a word
abbrev pub bit : ℕ → ℕ → ℕ
bit word j = word / 2 ^ j % 2

-- the penalties of the first n bits of a word, whose priors stand from `at` on
abbrev pub penalties : List ℤ → ℕ → ℕ → ℕ → ℕ
penalties priors at word zero = 0
penalties priors at word (suc j) = penalties priors at word j + penalty (slice_index_or priors (at + j) (pos 0)) (bit word j)
