-- What a pass computes with: a commutative semiring, and the value of a cost in it.
use Rattle.std.specs.Prelude.{◌≡◌, ℕ}

-- none is the value of no path, unit that of a path without edges; join takes two alternatives together, chain two parts of one path
pub record Operations (W : Type 0) : Type 0 where
  pub none : W
  pub unit : W
  pub value : ℕ → W
  pub join : W → W → W
  pub chain : W → W → W

-- the laws, for the values that are fine; 4,294,967,295 is the cost of what cannot be
pub record Semiring {W : Type 0} (fine : W → Type 0) (o : Operations W) : Type 0 where
  pub none_fine : fine o.none
  pub unit_fine : fine o.unit
  pub value_fine : (c : ℕ) → fine (o.value c)
  pub join_fine : (x y : W) → fine x → fine y → fine (o.join x y)
  pub chain_fine : (x y : W) → fine x → fine y → fine (o.chain x y)
  pub join_assoc : (x y z : W) → fine x → fine y → fine z → o.join (o.join x y) z ≡ o.join x (o.join y z)
  pub join_comm : (x y : W) → fine x → fine y → o.join x y ≡ o.join y x
  pub join_none : (x : W) → fine x → o.join x o.none ≡ x
  pub chain_assoc : (x y z : W) → fine x → fine y → fine z → o.chain (o.chain x y) z ≡ o.chain x (o.chain y z)
  pub chain_comm : (x y : W) → fine x → fine y → o.chain x y ≡ o.chain y x
  pub chain_unit : (x : W) → fine x → o.chain x o.unit ≡ x
  pub chain_none : (x : W) → fine x → o.chain x o.none ≡ o.none
  pub chain_join : (x y z : W) → fine x → fine y → fine z → o.chain x (o.join y z) ≡ o.join (o.chain x y) (o.chain x z)
  pub value_top : o.value 4294967295 ≡ o.none
