-- Permutations of the numbers below n.
use Rattle.std.specs.Prelude.{◌≡◌, ℕ, ◌<◌}

pub record Permutation (n : ℕ) (f : ℕ → ℕ) : Type 0 where
  pub inside : (j : ℕ) → j < n → f j < n
  pub one_to_one : (i j : ℕ) → i < n → j < n → f i ≡ f j → i ≡ j
  pub onto : (i : ℕ) → i < n → (j : ℕ) × (j < n) × (f j ≡ i)
