-- What an outer pass sends on about every coded bit, and what it finds of every data bit.
use Rattle.std.specs.Prelude.{ℕ, ◌*◌, ◌/◌, ◌%◌, cond, ◌||◌, List, map, ℤ, pos, ◌==◌, nat_lt, slice_index_or}
use Rattle.std.specs.List.{range_with_len}
use Rattle.std.specs.Option.{unwrap_or}
use Rattle.paths.specs.Paths.{path_join, paths_with}
use Rattle.paths.specs.Least.{least, top}
use Rattle.trellises.specs.Outer.{outer}
use Rattle.extrinsics.specs.Extrinsics.{sent_on, reliability_of}

-- about coded bit i, which is bit i % 2 of stage i / 2; from four stages on no coded bit is forced
abbrev pub outer_extrinsic : ℕ → List ℤ → ℕ → ℤ
outer_extrinsic n priors i = unwrap_or (sent_on 4 (outer n priors) (i / 2) (i % 2) (slice_index_or priors i (pos 0))) (pos 0)

unfoldable pub outer_extrinsics : ℕ → List ℤ → List ℤ
outer_extrinsics n priors = map (outer_extrinsic n priors) (range_with_len 0 (2 * n))

-- the least cost of a path whose data bit k is v
abbrev pub data_cost : ℕ → List ℤ → ℕ → ℕ → ℕ
data_cost n priors k v = path_join least (paths_with 4 (outer n priors) k 2 v)

-- the reliability of data bit k, 0 where it is forced
abbrev pub data_reliability : ℕ → List ℤ → ℕ → ℤ
data_reliability n priors k = unwrap_or (reliability_of 4 (outer n priors) k 2) (pos 0)

unfoldable pub data_reliabilities : ℕ → List ℤ → List ℤ
data_reliabilities n priors = map (data_reliability n priors) (range_with_len 0 n)

-- the decision: 2 where the bit is forced, 1 where one costs less than zero, else 0
abbrev pub decision : ℕ → List ℤ → ℕ → ℕ
decision n priors k = cond (data_cost n priors k 0 == top || data_cost n priors k 1 == top) 2 (cond (nat_lt (data_cost n priors k 1) (data_cost n priors k 0)) 1 0)

unfoldable pub decisions : ℕ → List ℤ → List ℕ
decisions n priors = map (decision n priors) (range_with_len 0 n)
