-- Nothing told comes back from the outer trellis.
use Rattle.extrinsics.proofs.OuterTold.{outer_leaves_prior_out}
use Rattle.extrinsics.proofs.outer_leaves_prior_out.Goals as goal

pub returns : goal.returns
returns c = outer_leaves_prior_out
