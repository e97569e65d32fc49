use Rattle.std.proofs.Common.{◌≡◌, ◌<◌, cond, ◌≢◌, length, sym, ap, ◌∙◌, arith, get_or-set_other, get_or-set_same, below_more}
use Rattle.passes.proofs.columns.border.Goals as goal
use Rattle.passes.proofs.columns.border.Goals.{then-may, else-may}

pub loop-s-preserved : goal.loop-s-preserved
loop-s-preserved g c =
    let o = g.W.Weights.ops in
    let at = c.loop-s.s in
    let value : c.if-may.x ≡ cond c.may.result o.unit o.none =
    elim c.if-may.branch [
      | then-may w ↦ w.x-is ∙ w.unit.ensures ∙ ap (λ b. cond b o.unit o.none) (sym w.if-may.true)
      | else-may w ↦ w.x-is ∙ w.none.ensures ∙ ap (λ b. cond b o.unit o.none) (sym w.if-may.false)
    ] in
    below_more _ _
    (λ s h. let i = c.loop-s.invariant s h in let ne : s ≢ at = omega arith in (i.0, i.1, get_or-set_other c.loop-s.column at s _ o.none ne ∙ i.2))
    (c.may.result, c.may.ensures, (let lt : at < length c.loop-s.column = omega arith in get_or-set_same c.loop-s.column at _ o.none lt ∙ value))

pub returns : goal.returns
returns g c s h = c.loop-s.invariant s (omega arith)
