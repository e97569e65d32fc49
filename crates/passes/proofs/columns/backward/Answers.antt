use Rattle.std.proofs.Common.{rules, cond, ◌≡◌, ◌+◌, ◌-◌, ◌*◌, ◌<◌, length, get_or, sym, refl, ap, ◌∙◌, inl, inr, ⊎_elim, arith}
use Rattle.std.proofs.lemmas.Bool.{cases_lt}
use Rattle.std.proofs.lemmas.List.{places}
use borrow.Rule.Slice.PartMut.{put_mid}
use Rattle.paths.specs.Trellises.{reversed}
use Rattle.paths.specs.Columns.{forward, backward}
use Rattle.passes.specs.Tables.{Kept, columns_size, backward_at}
use Rattle.passes.proofs.Rows.{rows, row_more}
use Rattle.passes.proofs.Rooms.{stage_room, column_room, columns_are, entry_room}
use Rattle.passes.proofs.Keeps.{stages_kept}
use Rattle.passes.proofs.Steps.{step_backward}
use Rattle.passes.proofs.columns.backward.Goals as goal

pub loop-k-init : goal.loop-k-init
unfolding forward
loop-k-init g c =
    let o = g.W.Weights.ops in
    let w = g.T.Trellis.states in
    let m = g.T.Trellis.meaning c.args.t.now in
    let v = c.state_count-states.result in
    let n = c.stages-stages.result in
    let front = columns_are v w n m.stages c.state_count-states.ensures c.stages-stages.ensures in
    let last = n * v + v + n * v in (
      λ p h. refl,
      λ k s h i b.
          let is : k ≡ m.stages = omega arith in
          let none_left : m.stages - k ≡ 0 = omega arith in
          let row = ap (λ k. k * w) is in
          let at : backward_at w m.stages k s ≡ last + s = omega arith in
          let made = c.border.ensures s (search (rules, places)) in
          let tells : made.0 ≡ m.last s = search rules in
          let stands : get_or (put_mid last (last + v - last) c.args.table.now c.border.new.column) (last + s) o.none ≡ get_or c.border.new.column s o.none = search (rules, places) in
          ap (λ i. get_or (put_mid last (last + v - last) c.args.table.now c.border.new.column) i o.none) at ∙ stands ∙ made.2 ∙ ap (λ b. cond b o.unit o.none) tells
          ∙ ap (λ j. forward o w (reversed m) j s) (sym none_left),
    )

pub column-requires-clause-entries : goal.column-requires-clause-entries
column-requires-clause-entries g c x y h b =
    let v = c.state_count-states.result in
    let w = g.T.Trellis.states in
    let n = (g.T.Trellis.meaning c.args.t.now).stages in
    let k = c.loop-k.k - 1 in
    let front = columns_are v w c.stages-stages.result n c.state_count-states.ensures c.stages-stages.ensures in
    let u = column_room v w n k c.state_count-states.ensures (omega arith) in
    let r = stage_room v w n k c.args.base (length c.loop-k.table) c.state_count-states.ensures (omega arith) (omega arith) in
    let e = entry_room y x v b h in
    (omega arith, inr (omega arith))

pub loop-k-preserved : goal.loop-k-preserved
loop-k-preserved g c =
    let o = g.W.Weights.ops in
    let w = g.T.Trellis.states in
    let m = g.T.Trellis.meaning c.args.t.now in
    let v = c.state_count-states.result in
    let is_v : v ≡ w = c.state_count-states.ensures in
    let k = c.loop-k.k - 1 in
    let size = columns_size w m.stages in
    let here : k < m.stages = omega arith in
    let flat : k * v ≡ k * w = ap (λ v. k * v) is_v in
    let row = row_more k w in
    let front = columns_are v w c.stages-stages.result m.stages c.state_count-states.ensures c.stages-stages.ensures in
    let u = column_room v w m.stages k is_v here in
    let last = c.stages-stages.result * v + v + c.stages-stages.result * v in
    let first = put_mid last (last + v - last) c.args.table.now c.border.new.column in
    let only : Kept o last v c.args.table.now first = λ p out. search (rules, places) in
    let begun = stages_kept o w m c.args.base last v c.args.table.now first c.requires.stages only (let z = ap (λ v. c.stages-stages.result * v) is_v in omega arith) in
    let stand = stages_kept o w m c.args.base size size first c.loop-k.table begun c.loop-k.invariant.0 (omega arith) in (
      λ p h. c.column.ensures.kept p (⊎_elim (λ l. inl (omega arith)) (λ l. inr (omega arith)) h) ∙ c.loop-k.invariant.0 p h,
      λ j s h i b. ⊎_elim
          (λ lt.
          let up = rows (k + 1) j w (omega arith) in
          c.column.ensures.kept (backward_at w m.stages j s) (inr (omega arith)) ∙ c.loop-k.invariant.1 j s (omega arith) i b)
          (λ new.
          let is : j ≡ k = omega arith in
          let same = ap (λ j. j * w) is in
          let at : backward_at w m.stages j s ≡ c.stages-stages.result * v + v + k * v + s = omega arith in
          ap (λ i. get_or c.column.new.table i o.none) at ∙ c.column.ensures.made s (omega arith)
          ∙ step_backward o w m c.args.base c.loop-k.table stand k here v is_v _
          (λ x small.
          let there : c.stages-stages.result * v + v + k * v + v + x ≡ backward_at w m.stages (k + 1) x = omega arith in
          ap (λ i. get_or c.loop-k.table i o.none) there ∙ c.loop-k.invariant.1 (k + 1) x (omega arith) (omega arith) small) s b
          ∙ ap (λ i. backward o w m i s) (sym is))
          (cases_lt k j),
    )
