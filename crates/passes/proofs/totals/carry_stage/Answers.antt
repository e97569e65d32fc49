use Rattle.std.proofs.Common.{rules, ◌≡◌, get_or, set, ap, ◌∙◌, arith}
use Rattle.std.proofs.lemmas.List.{get_or_read}
use Rattle.paths.specs.declared.edges.Edge.{Edge}
use Rattle.paths.specs.Columns.{gathered}
use Rattle.paths.proofs.Inside.{Low}
use Rattle.passes.proofs.Turns.{column_turned}
use Rattle.paths.proofs.Filled.{filled}
use Rattle.passes.proofs.totals.carry_stage.Goals as goal

pub loop-i-init : goal.loop-i-init
unfolding gathered
loop-i-init g c s h = filled _ g.W.Weights.ops.none (λ p x q ran. search rules) c.fill_with.new.self _ _ c.fill_with.ensures.ran.1 s

pub loop-i-preserved : goal.loop-i-preserved
loop-i-preserved g c =
    let o = g.W.Weights.ops in
    let w = g.T.Trellis.states in
    let es = (g.T.Trellis.meaning c.args.stage.now.trellis.now).edges c.args.stage.now.number in
    let e = c.edge-e.result in
    let low : Low w e = record { from_low = c.edge-e.ensures.states.0; to_low = c.edge-e.ensures.states.1 } in
    let v = λ (e : Edge). o.chain (get_or c.args.before.now e.from o.none) (o.value e.cost) in
    let rf = low.from_low in
    let rt = low.to_low in
    let a = get_or_read c.args.before.now e.from c.index-before-e.result (omega arith) c.index-before-e.is o.none in
    let b = get_or_read c.loop-i.after e.to c.index-after-e.result (omega arith) c.index-after-e.is o.none in
    let is : c.join.result ≡ o.join (get_or c.loop-i.after e.to o.none) (v e) = rw (← a, ← b, ← c.value.ensures, ← c.chain-more.ensures) c.join.ensures in
    λ s h. ap (λ x. get_or (set c.loop-i.after e.to x) s o.none) is ∙ column_turned o v es c.loop-i.i e c.edge-e.ensures.value c.loop-i.after w low (omega arith) c.loop-i.invariant s h
