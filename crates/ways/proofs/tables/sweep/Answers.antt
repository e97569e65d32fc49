-- A pass lays its three parts one beside another.
use Rattle.std.proofs.Common.{◌≡◌, ◌+◌, ◌*◌, arith}
use Rattle.passes.specs.Tables.{columns_size}
use Rattle.passes.proofs.Rooms.{columns_are}
use Rattle.passes.proofs.Keeps.{stages_kept, forward_kept}
use Rattle.ways.proofs.tables.sweep.Goals as goal

pub returns : goal.returns
returns g c =
    let o = g.W.Weights.ops in
    let w = g.T.Trellis.states in
    let m = g.T.Trellis.meaning c.args.t.now in
    let v = c.state_count-states.result in
    let C = columns_size w m.stages in
    let size : c.stages.result * v + v ≡ C = columns_are v w c.stages.result m.stages c.state_count-states.ensures c.stages.ensures in
    let base = 2 * (c.stages.result * v + v) in
    let laid = c.lay_stages.new.table in
    let forth = c.forward.new.table in
    let back = c.backward.new.table in
    record {
      base = omega arith;
      stages = stages_kept o w m base C C forth back (stages_kept o w m base 0 C laid forth c.lay_stages.ensures.made c.forward.ensures.kept (omega arith)) c.backward.ensures.kept (omega arith);
      forth = forward_kept o w m C C forth back c.forward.ensures.made c.backward.ensures.kept (omega arith);
      back = c.backward.ensures.made;
    }
