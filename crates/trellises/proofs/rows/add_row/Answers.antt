use Rattle.std.proofs.Common.{length, arith}
use Rattle.trellises.proofs.Rests.{behind_parts}
use Rattle.trellises.proofs.rows.add_row.Goals as goal

pub returns-clause-rest : goal.returns-clause-rest
returns-clause-rest c w h =
    let s = c.split_at_mut-zero in
    behind_parts s.result.0.now c.loop-w.zero s.result.1.now c.loop-w.one c.args.out.now (length c.args.slots.now) w s.ensures.front_len (omega arith) s.ensures.value (λ v p. c.loop-w.invariant.rest v (omega arith)) h
