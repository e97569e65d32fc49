-- What an inner pass sends on about every interleaved bit of a block.
use Rattle.std.specs.Prelude.{ℕ, ◌*◌, ◌/◌, ◌%◌, List, map, ℤ, pos, slice_index_or}
use Rattle.std.specs.List.{range_with_len}
use Rattle.std.specs.Option.{unwrap_or}
use Rattle.trellises.specs.Inner.{inner}
use Rattle.extrinsics.specs.Extrinsics.{sent_on}

-- about interleaved bit j, which is bit j % m of symbol j / m; no interleaved bit is forced, so there always is such a number
abbrev pub inner_extrinsic : ℕ → ℕ → List ℕ → List ℤ → ℕ → ℤ
inner_extrinsic m n rows priors j = unwrap_or (sent_on 2 (inner m n rows priors) (j / m) (j % m) (slice_index_or priors j (pos 0))) (pos 0)

-- about all of them
unfoldable pub inner_extrinsics : ℕ → ℕ → List ℕ → List ℤ → List ℤ
inner_extrinsics m n rows priors = map (inner_extrinsic m n rows priors) (range_with_len 0 (n * m))
