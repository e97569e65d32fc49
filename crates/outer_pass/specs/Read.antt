-- What is read from the reliability of a bit, which is none where the bit is forced.
use Rattle.std.specs.Prelude.{ℕ, cond, ℤ, pos, Some, None, Option, int_lt}

-- 2 where the bit is forced, 1 where its reliability is above 0, else 0
abbrev pub decided_of : Option ℤ → ℕ
decided_of None = 2
decided_of (Some r) = cond (int_lt (pos 0) r) 1 0
