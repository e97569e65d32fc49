-- What can be read of a run, and the numbers by which it is named.
use Rattle.std.specs.Prelude.{ℕ, cond, Some, None, Option, ◌==◌}
use Rattle.run_model.specs.declared.kinds.Kind.{Kind}
use Rattle.run_model.specs.declared.kinds.Kind.TheVariants.{Extrinsic, Prior, Reliability, Ties}

abbrev pub kind_number : Kind → ℕ
kind_number Extrinsic = 1
kind_number Prior = 2
kind_number Reliability = 3
kind_number Ties = 4

abbrev pub kind_of : ℕ → Option Kind
kind_of n = cond (n == 1) (Some Extrinsic) (cond (n == 2) (Some Prior) (cond (n == 3) (Some Reliability) (cond (n == 4) (Some Ties) None)))
