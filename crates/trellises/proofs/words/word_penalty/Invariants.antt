-- The sum has the penalties of the bits before j.
use Rattle.std.proofs.Common.{◌≡◌}
use Rattle.trellises.specs.Priors.{penalties}
use Rattle.trellises.proofs.words.word_penalty.Given as goal

abbrev pub invariant-loop-j : goal.invariant-loop-j
invariant-loop-j l = l.sum ≡ penalties l.priors 0 l.word l.j
