use Rattle.std.proofs.Common.{arith}
use Rattle.run_tables.proofs.Written.{written_same}
use Rattle.run_tables.proofs.fronts.clear.Goals as goal

pub returns : goal.returns
returns g c = record { after = written_same c.args.n _ c.args.z _ _ c.requires (omega arith) c.loop-entry-test.false c.loop-entry.invariant }
