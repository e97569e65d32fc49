use Rattle.std.proofs.Common.{◌≡◌}
use Rattle.run_model.specs.Model.{none_missing}
use Rattle.run_tables.proofs.fronts.none_missing.Given as goal

abbrev pub invariant-loop-mark : goal.invariant-loop-mark
invariant-loop-mark l = l.all ≡ none_missing l.mark-index l.marks
