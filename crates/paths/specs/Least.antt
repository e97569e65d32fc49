-- The least cost: join is the smaller, chain the sum held at the top.
use Rattle.std.specs.Prelude.{ℕ, ◌+◌, ◌≤◌, min}
use Rattle.paths.specs.Semirings.{Operations}

-- the cost of what cannot be
abbrev pub top : ℕ
top = 4294967295

abbrev pub least : Operations ℕ
least = record { none = top; unit = 0; value = λ c. min c top; join = min; chain = λ x y. min (x + y) top }

abbrev pub FineCost : ℕ → Type 0
FineCost n = n ≤ top
