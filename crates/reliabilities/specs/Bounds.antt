-- How large a reliability is.
use Rattle.std.specs.Prelude.{ℕ, ℤ, pos, neg_ℤ, ◌≤ℤ◌, Some, None, Option}

-- the bit is forced, or its reliability lies within -d .. d
abbrev pub Bounded : ℕ → Option ℤ → Type 0
Bounded d None = Unit {0}
Bounded d (Some r) = (neg_ℤ (pos d) ≤ℤ r) × (r ≤ℤ pos d)
