-- Nothing told comes back from the inner trellis.
use Rattle.extrinsics.proofs.InnerTold.{inner_leaves_prior_out}
use Rattle.extrinsics.proofs.inner_leaves_prior_out.Goals as goal

pub returns : goal.returns
returns c = inner_leaves_prior_out
