-- Common divisors.
use Rattle.std.specs.Prelude.{◌≡◌, ℕ, zero, suc, ◌%◌, Bool, true, not, ◌&&◌, ◌||◌, ◌==◌}
use Rattle.std.specs.Int.{◌∣◌}

-- g divides both a and b, and whatever divides both divides g
pub record GreatestCommon (a b g : ℕ) : Type 0 where
  pub left : g ∣ a
  pub right : g ∣ b
  pub most : (d : ℕ) → d ∣ a → d ∣ b → d ∣ g

-- nothing but 1 divides both
abbrev pub Coprime : ℕ → ℕ → Type 0
Coprime a b = (d : ℕ) → d ∣ a → d ∣ b → d ≡ 1

-- whether k divides both
abbrev pub common : ℕ → ℕ → ℕ → Bool
common a b k = a % k == 0 && b % k == 0

-- whether no number from 2 to k divides both
abbrev pub none_common : ℕ → ℕ → ℕ → Bool
none_common a b zero = true
none_common a b (suc k) = (k == 0 || not (common a b (suc k))) && none_common a b k

-- the test of Coprime, where b is not 0
unfoldable pub coprime : ℕ → ℕ → Bool
coprime a b = none_common a b b
