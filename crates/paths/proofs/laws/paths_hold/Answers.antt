use Rattle.paths.proofs.Exactly.{paths_exact}
use Rattle.paths.proofs.laws.paths_hold.Goals as goal

pub returns : goal.returns
returns c = paths_exact
