-- The least cost is a semiring.
use Rattle.std.specs.Prelude.{refl}
use Rattle.std.proofs.Common.{arith}
use Rattle.paths.specs.Semirings.{Semiring}
use Rattle.paths.specs.Least.{least, FineCost}

pub least_laws : Semiring FineCost least
least_laws = record {
  none_fine = omega arith;
  unit_fine = omega arith;
  value_fine = λ c. omega arith;
  join_fine = λ x y h k. omega arith;
  chain_fine = λ x y h k. omega arith;
  join_assoc = λ x y z h k l. omega arith;
  join_comm = λ x y h k. omega arith;
  join_none = λ x h. omega arith;
  chain_assoc = λ x y z h k l. omega arith;
  chain_comm = λ x y h k. omega arith;
  chain_unit = λ x h. omega arith;
  chain_none = λ x h. omega arith;
  chain_join = λ x y z h k l. omega arith;
  value_top = refl;
}
