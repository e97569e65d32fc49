-- The least cost, and how many paths have it, counted up to 255.
use Rattle.std.specs.Prelude.{◌≡◌, ℕ, ◌+◌, ◌*◌, ◌<◌, ◌≤◌, min, cond, nat_lt}
use Rattle.paths.specs.declared.ties.Tied.{Tied}
use Rattle.paths.specs.Semirings.{Operations}
use Rattle.paths.specs.Least.{top}

abbrev pub tied : ℕ → ℕ → Tied
tied cost count = record { cost = cost; count = count }

-- the lower cost's count, or both where the costs are equal
abbrev pub joined_count : ℕ → ℕ → ℕ → ℕ → ℕ
joined_count a m b n = cond (nat_lt a b) m (cond (nat_lt b a) n (min (m + n) 255))

-- a sum held at the top has count 0
abbrev pub chained_count : ℕ → ℕ → ℕ → ℕ → ℕ
chained_count a m b n = cond (nat_lt (a + b) top) (min (m * n) 255) 0

abbrev pub least_with_ties : Operations Tied
least_with_ties = record {
  none = tied top 0;
  unit = tied 0 1;
  value = λ c. tied (min c top) (cond (nat_lt c top) 1 0);
  join = λ x y. tied (min x.cost y.cost) (joined_count x.cost x.count y.cost y.count);
  chain = λ x y. tied (min (x.cost + y.cost) top) (chained_count x.cost x.count y.cost y.count);
}

-- the count is 0 exactly where the cost is the top
pub record FineCount (cost count : ℕ) : Type 0 where
  pub cost_low : cost ≤ top
  pub count_low : count ≤ 255
  pub none_at_top : cost ≡ top → count ≡ 0
  pub some_below : cost < top → 1 ≤ count

abbrev pub FineTied : Tied → Type 0
FineTied x = FineCount x.cost x.count
