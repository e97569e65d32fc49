use Rattle.std.proofs.Common.{◌≡◌}
use Rattle.paths.specs.Metastages.{level_size, level_start}
use Rattle.passes.proofs.metastages.place_of.Given as goal

abbrev pub invariant-loop : goal.invariant-loop
invariant-loop l = (l.begin ≡ level_start l.stages l.counter) × (l.many ≡ level_size l.stages l.counter)
