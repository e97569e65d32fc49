-- What is sent on about a bit of a trellis, and that nothing told about the bit comes back in it.
use Rattle.std.specs.Prelude.{◌≡◌, ℕ, ◌+◌, ◌*◌, ◌<◌, ◌≤◌, List, length, ℤ, pos, negsuc, Option, slice_set}
use Rattle.std.specs.Option.{option_map}
use Rattle.paths.specs.Trellises.{Meaning}
use Rattle.paths.specs.Paths.{path_join, paths_with}
use Rattle.paths.specs.Least.{least}
use Rattle.modulo.specs.Modulo.{reliability}
use Rattle.modulo.specs.Priors.{extrinsic}
use Rattle.trellises.specs.Inner.{inner}
use Rattle.trellises.specs.InnerLaws.{InnerSizes}
use Rattle.trellises.specs.Outer.{outer}

-- the reliability of bit b of stage k's word, from the least costs over all paths with it 0 and over all with it 1; none where it is forced
abbrev pub reliability_of : ℕ → Meaning → ℕ → ℕ → Option ℤ
reliability_of states m k b = reliability (path_join least (paths_with states m k b 0)) (path_join least (paths_with states m k b 1))

-- what is sent on about it, told the prior: its reliability less the prior, held within -511 to 511; none where it is forced
abbrev pub sent_on : ℕ → Meaning → ℕ → ℕ → ℤ → Option ℤ
sent_on states m k b prior = option_map (λ r. extrinsic r prior) (reliability_of states m k b)

-- the prior is within -511 to 511, as every number that is sent on is
abbrev pub Within511 : ℤ → Type 0
Within511 (pos n) = n ≤ 511
Within511 (negsuc n) = n + 1 ≤ 511

-- the inner trellis: whatever is told about an interleaved bit, with all else the same, the same is sent on about it
abbrev pub InnerLeavesPriorOut : Type 0
InnerLeavesPriorOut = (m n : ℕ) (rows : List ℕ) (priors : List ℤ) → InnerSizes m n → n * m ≤ length priors
    → (k b : ℕ) → k < n → b < m → (x y : ℤ) → Within511 x → Within511 y
    → sent_on 2 (inner m n rows (slice_set priors (k * m + b) x)) k b x ≡ sent_on 2 (inner m n rows (slice_set priors (k * m + b) y)) k b y

-- the outer trellis: the same of a coded bit, from four data bits on
abbrev pub OuterLeavesPriorOut : Type 0
OuterLeavesPriorOut = (n : ℕ) (priors : List ℤ) → 4 ≤ n → n ≤ 16384 → 2 * n ≤ length priors
    → (k b : ℕ) → k < n → b < 2 → (x y : ℤ) → Within511 x → Within511 y
    → sent_on 4 (outer n (slice_set priors (2 * k + b) x)) k b x ≡ sent_on 4 (outer n (slice_set priors (2 * k + b) y)) k b y
