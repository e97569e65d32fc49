-- The columns on both sides of the stage are parts of the table.
use Rattle.ways.specs.declared.names.Way.TheVariants.{Modular}
use Rattle.reliabilities.specs.Kept.{kept_modulo}
use Rattle.std.proofs.Common.{sym, ap}
use Rattle.paths.specs.Least.{least}
use Rattle.modulo.specs.Modulo.{modulo}
use Rattle.ways.specs.Ways.{ops_as}
use Rattle.soft_outputs.proofs.Fronts.{room_of, least_ops, columns_there, front_of, back_of, least_kept, as_is, found_as, least_found}
use Rattle.soft_outputs.proofs.stage.stage_reliabilities.Goals as goal

pub stage_bits-requires : goal.stage_bits-requires
stage_bits-requires g c =
    let S = g.T.Trellis.states in
    let stage = c.args.stage.now in
    let m = g.T.Trellis.meaning stage.trellis.now in
    record {
      columns = columns_there c.args.way S m c.args.table.now stage.number c.state_count-states.result c.stages.result c.state_count-states.ensures c.stages.ensures stage.inside c.requires.long c.requires.worked;
      served = c.requires.cheap;
      forth = λ s h. least_kept c.args.way c.in-Columns.is _ _ (front_of c.args.way S m c.args.table.now stage.number c.state_count-states.result c.stages.result c.state_count-states.ensures c.stages.ensures stage.inside c.requires.long c.requires.worked s h);
      onward = λ s h. least_kept c.args.way c.in-Columns.is _ _ (back_of c.args.way S m c.args.table.now stage.number c.state_count-states.result c.stages.result c.state_count-states.ensures c.stages.ensures stage.inside c.requires.long c.requires.worked s h);
    }

pub stage_bits-requires-in-Modular : goal.stage_bits-requires-in-Modular
unfolding kept_modulo
stage_bits-requires-in-Modular g c =
    let S = g.T.Trellis.states in
    let stage = c.args.stage.now in
    let m = g.T.Trellis.meaning stage.trellis.now in
    record {
      columns = columns_there c.args.way S m c.args.table.now stage.number c.state_count-states.result c.stages.result c.state_count-states.ensures c.stages.ensures stage.inside c.requires.long c.requires.worked;
      served = c.requires.served c.in-Modular.is;
      forth = λ s h. as_is c.args.way Modular c.in-Modular.is _ _ (front_of c.args.way S m c.args.table.now stage.number c.state_count-states.result c.stages.result c.state_count-states.ensures c.stages.ensures stage.inside c.requires.long c.requires.worked s h);
      onward = λ s h. as_is c.args.way Modular c.in-Modular.is _ _ (back_of c.args.way S m c.args.table.now stage.number c.state_count-states.result c.stages.result c.state_count-states.ensures c.stages.ensures stage.inside c.requires.long c.requires.worked s h);
    }

pub returns-in-Columns-clause-found : goal.returns-in-Columns-clause-found
returns-in-Columns-clause-found g c b low = least_found c.args.way c.in-Columns.is c.stage_bits.new.room.bits b _ _ (c.stage_bits.ensures.found b low)

pub returns-in-Modular-clause-found : goal.returns-in-Modular-clause-found
unfolding kept_modulo
returns-in-Modular-clause-found g c b low = found_as c.args.way Modular c.in-Modular.is c.stage_bits-in-Modular.new.room.bits b _ _ (c.stage_bits-in-Modular.ensures.found b low)

pub returns-in-Columns-clause-room : goal.returns-in-Columns-clause-room
returns-in-Columns-clause-room g c =
    let stage = c.args.stage.now in
    let t = stage.trellis.now in
    room_of c.args.way g.T.Trellis.states (g.T.Trellis.meaning t) c.args.table.now stage.number c.state_count-states.result c.stages.result c.state_count-states.ensures c.stages.ensures stage.inside c.requires.long c.requires.worked
    least (least_ops c.args.way c.in-Columns.is) (g.T.Trellis.lawful t) (g.T.Trellis.bits t) c.args.room.now c.stage_bits.new.room c.stage_bits.ensures.room

pub returns-in-Modular-clause-room : goal.returns-in-Modular-clause-room
returns-in-Modular-clause-room g c =
    let stage = c.args.stage.now in
    let t = stage.trellis.now in
    room_of c.args.way g.T.Trellis.states (g.T.Trellis.meaning t) c.args.table.now stage.number c.state_count-states.result c.stages.result c.state_count-states.ensures c.stages.ensures stage.inside c.requires.long c.requires.worked
    modulo (sym (ap ops_as c.in-Modular.is)) (g.T.Trellis.lawful t) (g.T.Trellis.bits t) c.args.room.now c.stage_bits-in-Modular.new.room c.stage_bits-in-Modular.ensures.room
