-- The places before b are laid.
use Rattle.std.proofs.Common.{◌≡◌, ℕ, ◌<◌, get_or, pos, None}
use Rattle.modulo.specs.Priors.{told_of}
use Rattle.inner_pass.proofs.lay.Given as goal

abbrev pub invariant-loop-b : goal.invariant-loop-b
invariant-loop-b l = (b : ℕ) → b < l.b → get_or l.out b (pos 0) ≡ told_of (get_or l.bits b None) (get_or l.priors b (pos 0))
