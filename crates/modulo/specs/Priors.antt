-- What a number told about a bit adds to the paths, and what is sent on about that bit.
use Rattle.std.specs.Prelude.{◌≡◌, ℕ, suc, ◌+◌, ℤ, pos, negsuc, ◌-ℤ◌, Option}
use Rattle.std.specs.Option.{unwrap_or, option_map}
use Rattle.std.specs.Int.{int_min, int_max}

-- a prior above 0 speaks for the bit 1, one below 0 for the bit 0; every path with the other bit pays its size:
-- with the bit 0 the larger of 0 and the prior
abbrev pub zero_penalty : ℤ → ℕ
zero_penalty (pos n) = n
zero_penalty (negsuc n) = 0

-- with the bit 1 the larger of 0 and the prior turned
abbrev pub one_penalty : ℤ → ℕ
one_penalty (pos n) = 0
one_penalty (negsuc n) = suc n

-- the reliability less what was told before, held within -511 .. 511
unfoldable pub extrinsic : ℤ → ℤ → ℤ
extrinsic reliability prior = int_max (negsuc 510) (int_min (reliability -ℤ prior) (pos 511))

-- what is sent on about a bit of that reliability, 0 where it has none
abbrev pub told_of : Option ℤ → ℤ → ℤ
told_of reliability prior = unwrap_or (option_map (λ r. extrinsic r prior) reliability) (pos 0)

-- the reliability under a prior, where without it the least costs with the bit 0 and 1 are z and o
abbrev pub reliability_under : ℕ → ℕ → ℤ → ℤ
reliability_under z o prior = pos (z + zero_penalty prior) -ℤ pos (o + one_penalty prior)

-- nothing told comes back: what is sent on about a bit does not depend on its prior
abbrev pub PriorLeftOut : Type 0
PriorLeftOut = (z o : ℕ) (prior other : ℤ) → extrinsic (reliability_under z o prior) prior ≡ extrinsic (reliability_under z o other) other
