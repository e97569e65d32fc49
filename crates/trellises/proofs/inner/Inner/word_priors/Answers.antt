use Rattle.std.proofs.Common.{◌≡◌, ◌+◌, ◌-◌, ◌*◌, subst, length, take, drop, arith}
use Rattle.trellises.specs.Priors.{penalties}
use Rattle.trellises.proofs.WordPenalties.{penalties_part}
use Rattle.trellises.proofs.inner.Inner.word_priors.Goals as goal

pub returns-clause-value : goal.returns-clause-value
returns-clause-value c w =
    let t = c.args.self.now in
    let at = c.args.k * t.m in
    let n : t.m ≡ (c.args.k + 1) * t.m - at = grind arith in
    subst (λ n. penalties (take n (drop at t.priors.now)) 0 w (length (take n (drop at t.priors.now))) ≡ penalties t.priors.now at w t.m) n
    (penalties_part t.priors.now at w t.m (grind arith))
