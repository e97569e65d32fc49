-- Which bits of a stage's word take both values on paths, and which only one.
use Rattle.std.specs.Prelude.{◌≡◌, ℕ, ◌+◌, ◌<◌, ◌≤◌, List, [], ℤ}
use Rattle.paths.specs.Paths.{path_join, paths_with}
use Rattle.paths.specs.Least.{least, top}
use Rattle.trellises.specs.Inner.{inner}
use Rattle.trellises.specs.InnerLaws.{InnerSizes}
use Rattle.trellises.specs.Outer.{outer}

-- no interleaved bit is forced: as zero and as one, it lies on a path that costs less than what cannot be
abbrev pub InterleavedBitsFree : Type 0
InterleavedBitsFree = (m n : ℕ) (rows : List ℕ) (priors : List ℤ) → InnerSizes m n → (k b v : ℕ) → k < n → b < m → v < 2
    → path_join least (paths_with 2 (inner m n rows priors) k b v) < top

-- no coded bit is forced, from four data bits on
abbrev pub CodedBitsFree : Type 0
CodedBitsFree = (n : ℕ) (priors : List ℤ) → 4 ≤ n → n ≤ 16384 → (k b v : ℕ) → k < n → b < 2 → v < 2
    → path_join least (paths_with 4 (outer n priors) k b v) < top

-- no data bit before the last two is forced
abbrev pub DataBitsFree : Type 0
DataBitsFree = (n : ℕ) (priors : List ℤ) → n ≤ 16384 → (k v : ℕ) → k + 2 < n → v < 2
    → path_join least (paths_with 4 (outer n priors) k 2 v) < top

-- the last two data bits are zero on every path
abbrev pub LastBitsZero : Type 0
LastBitsZero = (n : ℕ) (priors : List ℤ) (k : ℕ) → k < n → n ≤ k + 2 → paths_with 4 (outer n priors) k 2 1 ≡ []
