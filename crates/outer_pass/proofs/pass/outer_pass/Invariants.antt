use Rattle.std.proofs.Common.{◌*◌}
use Rattle.outer_pass.specs.OuterPass.{outer_extrinsic, data_reliability, decision}
use Rattle.outer_pass.proofs.Fronts.{Front}
use Rattle.outer_pass.proofs.pass.outer_pass.Given as goal

abbrev pub invariant-loop-k : goal.invariant-loop-k
invariant-loop-k l =
    Front (outer_extrinsic l.t.n l.t.priors.now) (2 * l.k) (2 * l.t.n) l.initial.out l.out
    × Front (data_reliability l.t.n l.t.priors.now) l.k l.t.n l.initial.found l.found
    × Front (decision l.t.n l.t.priors.now) l.k l.t.n l.initial.decided l.decided
