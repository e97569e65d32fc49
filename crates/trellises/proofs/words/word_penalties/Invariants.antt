-- Before bit j the words of j bits are laid, each with its zeros above.
use Rattle.std.proofs.Common.{◌≡◌, ℕ, ◌^◌, ◌<◌, ◌≤◌, get_or, length}
use Rattle.trellises.specs.Priors.{penalties}
use Rattle.trellises.proofs.words.word_penalties.Given as goal

abbrev pub invariant-loop-j : goal.invariant-loop-j
invariant-loop-j l = record {
  laid : (w : ℕ) → w < 2 ^ l.j → get_or l.out w 0 ≡ penalties l.priors 0 w (length l.priors);
  rest : (w : ℕ) → 2 ^ l.j ≤ w → get_or l.out w 0 ≡ get_or l.fn.out w 0;
}
