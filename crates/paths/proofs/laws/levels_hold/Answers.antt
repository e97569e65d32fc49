use Rattle.paths.proofs.Levels.{level_laws}
use Rattle.paths.proofs.laws.levels_hold.Goals as goal

pub returns : goal.returns
returns c = level_laws
