use Rattle.std.proofs.Common.{arith}
use Rattle.trellises.proofs.Rests.{behind_parts}
use Rattle.trellises.proofs.words.double.Goals as goal

pub returns-clause-rest : goal.returns-clause-rest
returns-clause-rest c w h =
    let s = c.split_at_mut-low in
    behind_parts s.result.0.now s.result.0.now s.result.1.now c.loop-w.high c.args.out.now c.args.size w s.ensures.front_len s.ensures.front_len s.ensures.value (λ v p. c.loop-w.invariant.rest v (omega arith)) h
