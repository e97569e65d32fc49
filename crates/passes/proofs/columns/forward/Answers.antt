use Rattle.std.proofs.Common.{rules, ◌++◌, cond, drop, ◌≡◌, ◌+◌, ◌*◌, ◌<◌, ◌≤◌, get_or, sym, refl, ap, ◌∙◌, inl, inr, ⊎_elim, zero-mul, arith}
use Rattle.std.proofs.lemmas.Bool.{cases_lt}
use Rattle.std.proofs.lemmas.List.{places, get_or_append_left}
use Rattle.paths.specs.Columns.{forward}
use Rattle.passes.specs.Tables.{Kept, columns_size, forward_at}
use Rattle.passes.proofs.Rows.{rows, row_more}
use Rattle.passes.proofs.Rooms.{column_room}
use Rattle.passes.proofs.Keeps.{stages_kept}
use Rattle.passes.proofs.Steps.{step_forward}
use Rattle.passes.proofs.columns.forward.Goals as goal

pub loop-k-init : goal.loop-k-init
unfolding forward
loop-k-init g c =
    let o = g.W.Weights.ops in
    let m = g.T.Trellis.meaning c.args.t.now in
    let w = g.T.Trellis.states in (
      λ p h. refl,
      λ k s h b.
          let is : k ≡ 0 = omega arith in
          let flat : k * w + s ≡ s = ap (λ i. i * w + s) is ∙ (let z = zero-mul w in omega arith) in
          let made = c.border.ensures s (search (rules, places)) in
          let first : made.0 ≡ m.first s = search rules in
          ap (λ i. get_or (c.border.new.column ++ drop c.state_count-states.result c.args.table.now) i o.none) flat
          ∙ get_or_append_left c.border.new.column (drop c.state_count-states.result c.args.table.now) o.none s (search (rules, places)) ∙ made.2 ∙ ap (λ b. cond b o.unit o.none) first
          ∙ ap (λ i. forward o w m i s) (sym is),
    )

pub loop-k-preserved : goal.loop-k-preserved
loop-k-preserved g c =
    let o = g.W.Weights.ops in
    let w = g.T.Trellis.states in
    let m = g.T.Trellis.meaning c.args.t.now in
    let v = c.state_count-states.result in
    let is_v : v ≡ w = c.state_count-states.ensures in
    let k = c.loop-k.k in
    let here : k < m.stages = omega arith in
    let flat : k * v ≡ k * w = ap (λ v. k * v) is_v in
    let u = column_room v w m.stages k is_v here in
    let first = c.border.new.column ++ drop v c.args.table.now in
    let only : Kept o 0 w c.args.table.now first = λ p out. search (rules, places) in
    let begun = stages_kept o w m c.args.base 0 w c.args.table.now first c.requires.stages only (omega arith) in
    let stand = stages_kept o w m c.args.base 0 (columns_size w m.stages) first c.loop-k.table begun c.loop-k.invariant.0 (omega arith) in (
      λ p h. c.column.ensures.kept p (inr (omega arith)) ∙ c.loop-k.invariant.0 p h,
      λ j s h b. ⊎_elim
          (λ lt.
          let old : j ≤ k = omega arith in
          let low = rows j k w old in
          c.column.ensures.kept (forward_at w j s) (inl (omega arith)) ∙ c.loop-k.invariant.1 j s old b)
          (λ new.
          let is : j ≡ k + 1 = omega arith in
          let row = row_more k w in
          let at : j * w ≡ k * v + v = ap (λ i. i * w) is ∙ (omega arith) in
          ap (λ i. get_or c.column.new.table (i + s) o.none) at ∙ c.column.ensures.made s (omega arith)
          ∙ step_forward o w m c.args.base c.loop-k.table stand k here v is_v (k * v) (λ x small. ap (λ i. get_or c.loop-k.table (i + x) o.none) flat ∙ c.loop-k.invariant.1 k x (omega arith) small) s b
          ∙ ap (λ i. forward o w m i s) (sym is))
          (cases_lt j (k + 1)),
    )
