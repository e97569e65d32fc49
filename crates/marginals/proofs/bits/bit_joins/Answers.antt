-- Joins of candidates between the columns of a pass are joins over paths.
use Rattle.std.proofs.Common.{get_or}
use Rattle.marginals.specs.Words.{entry_of, neither}
use Rattle.marginals.proofs.Lawful.{over_paths}
use Rattle.marginals.proofs.bits.bit_joins.Goals as goal

pub returns : goal.returns
returns g c =
    let s = c.args.stage.now in
    let o = g.W.Weights.ops in
    let made = over_paths g.met.W.Semiring.laws (g.T.Trellis.meaning s.trellis.now) (g.T.Trellis.lawful s.trellis.now) s.number s.inside
    (entry_of o c.args.before.now) (entry_of o c.args.after.now) c.requires.forth c.requires.back in
    record {
      zero = λ b h. made b 0 (get_or c.marginals.new.room.bits b (neither o)).zero (c.marginals.ensures.zero b h);
      room = c.marginals.ensures.room;
      one = λ b h. made b 1 (get_or c.marginals.new.room.bits b (neither o)).one (c.marginals.ensures.one b h);
    }
