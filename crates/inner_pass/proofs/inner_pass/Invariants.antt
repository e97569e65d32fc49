-- The interleaved bits of the symbols before k are told of, and the tail is kept.
use Rattle.std.proofs.Common.{◌≡◌, ℕ, ◌*◌, ◌<◌, get_or, drop, pos}
use Rattle.inner_pass.specs.InnerPass.{inner_extrinsic}
use Rattle.inner_pass.proofs.inner_pass.Given as goal

abbrev pub invariant-loop-k : goal.invariant-loop-k
invariant-loop-k l = record {
  front : (j : ℕ) → j < l.k * l.t.m → get_or l.out j (pos 0) ≡ inner_extrinsic l.t.m l.t.n l.t.rows.now l.t.priors.now j;
  tail : drop (l.t.n * l.t.m) l.out ≡ drop (l.t.n * l.t.m) l.initial.out;
}
