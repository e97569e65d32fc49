use Rattle.std.proofs.Common.{rules, ◌≡◌, ◌+◌, ◌*◌, ◌<◌, length, get_or, take, set, sym, ap, ◌∙◌, arith}
use Rattle.std.proofs.lemmas.List.{get_or-take, get_or_read, length-take-le}
use Rattle.paths.specs.Columns.{gathered}
use Rattle.paths.proofs.Inside.{Low}
use Rattle.passes.proofs.Rows.{row_under}
use Rattle.passes.proofs.Turns.{stage_turned}
use Rattle.paths.proofs.Filled.{filled}
use Rattle.passes.proofs.stages.lay_stage.Goals as goal

pub loop-i-init : goal.loop-i-init
unfolding gathered
loop-i-init g c x y h k = filled _ g.W.Weights.ops.none (λ p x q ran. search rules) c.fill_with.new.self _ _ c.fill_with.ensures.ran.1 (x * g.T.Trellis.states + y)

pub offset_bounds-metastage-e : goal.offset_bounds-metastage-e
offset_bounds-metastage-e g c =
    let w = g.T.Trellis.states in
    let e = c.edge-e.result in
    let u = row_under e.from w w c.edge-e.ensures.states.0 in
    let r = c.edge-e.ensures.states.1 in
    let here : e.from * c.state_count-states.result + e.to < length c.loop-i.metastage = rw c.state_count-states.ensures (omega arith) in
    search rules

pub loop-i-preserved : goal.loop-i-preserved
loop-i-preserved g c =
    let o = g.W.Weights.ops in
    let w = g.T.Trellis.states in
    let es = (g.T.Trellis.meaning c.args.stage.now.trellis.now).edges c.args.stage.now.number in
    let n = c.edge_count.result in
    let i = c.loop-i.i in
    let e = c.edge-e.result in
    let low : Low w e = record { from_low = c.edge-e.ensures.states.0; to_low = c.edge-e.ensures.states.1 } in
    let u = row_under e.from w w low.from_low in
    let r = low.to_low in
    let here : i < n = omega (arith, length-take-le n c.costs.new.out) in
    let cost : get_or (take n c.costs.new.out) i 0 ≡ e.cost = get_or-take n c.costs.new.out i 0 here ∙ c.costs.ensures.laid i e c.edge-e.ensures.value in
    let there = e.from * w + e.to in
    let tb = c.loop-i.metastage in
    let read : c.index-metastage-e.result ≡ get_or tb there o.none = rw (← c.state_count-states.ensures) (get_or_read tb _ c.index-metastage-e.result (rw c.state_count-states.ensures (omega arith)) c.index-metastage-e.is o.none) in
    let is : c.relax.new.entry ≡ o.join (get_or tb there o.none) (o.value e.cost) =
    c.relax.ensures ∙ ap (λ z. o.join z (o.value (get_or (take n c.costs.new.out) i 0))) (sym c.index-metastage-e.is ∙ read) ∙ ap (λ z. o.join (get_or tb there o.none) (o.value z)) cost in
    λ x y h k.
    rw c.state_count-states.ensures
    (ap (λ z. get_or (set tb there z) (x * w + y) o.none) is
    ∙ stage_turned o es i e c.edge-e.ensures.value tb w low (omega arith) c.loop-i.invariant x y h k)
