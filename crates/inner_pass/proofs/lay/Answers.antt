use Rattle.std.proofs.Common.{get_or, pos, None, arith}
use Rattle.std.proofs.lemmas.List.FromFn.{fill_by_all}
use Rattle.modulo.specs.Priors.{told_of}
use Rattle.inner_pass.proofs.lay.Goals as goal

pub returns : goal.returns
returns c =
    fill_by_all (λ b. told_of (get_or c.args.bits.now b None) (get_or c.args.priors.now b (pos 0))) c.loop-b.out _ (pos 0) (omega arith) (λ b h. c.loop-b.invariant b (omega arith))
