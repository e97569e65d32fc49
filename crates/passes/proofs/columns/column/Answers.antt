use Rattle.std.proofs.Common.{◌+◌, ◌*◌, ◌<◌, ◌≢◌, length, ◌∙◌, inl, inr, ⊎_elim, arith, get_or-set_other, get_or-set_same, below_more}
use Rattle.passes.proofs.Dots.{dotted_same}
use Rattle.passes.proofs.columns.column.Goals as goal

pub loop-y-preserved : goal.loop-y-preserved
loop-y-preserved g c =
    let o = g.W.Weights.ops in
    let y = c.loop-y.y in
    let at = c.args.to + y in
    let from = c.args.from in
    let meta = c.args.metastage.place + y * c.args.metastage.col in (
      λ p h. let ne : p ≢ at = omega arith in rw get_or-set_other (c.loop-y.invariant.0 p h),
      below_more _ _
          (λ z h. let ne : (c.args.to + z) ≢ at = omega arith in rw get_or-set_other (c.loop-y.invariant.1 z h))
          (let lt : at < length c.loop-y.table = omega arith in rw get_or-set_same
          (c.dot.ensures
          ∙ dotted_same o c.args.states c.loop-y.table c.args.table.now from meta c.args.metastage.row
          (λ x h. c.loop-y.invariant.0 (from + x) (⊎_elim (λ l. inl (omega arith)) (λ l. inr (omega arith)) c.requires.room.2))
          (λ x h. c.loop-y.invariant.0 (meta + x * c.args.metastage.row) (c.requires.entries x y h (omega arith)).1))),
    )
