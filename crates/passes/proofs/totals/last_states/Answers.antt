use Rattle.std.proofs.Common.{◌≡◌, ℕ, cond, get_or, sym, ap, ◌∙◌, add-one, arith}
use Rattle.std.proofs.lemmas.List.{get_or_read}
use Rattle.paths.specs.Columns.{join_below}
use Rattle.passes.proofs.Dots.{below_zero, below_suc}
use Rattle.passes.proofs.totals.last_states.Goals as goal
use Rattle.passes.proofs.totals.last_states.Goals.{then-last, else-last}

pub loop-s-init : goal.loop-s-init
loop-s-init g c =
    let o = g.W.Weights.ops in
    c.none-sum.ensures ∙ sym (below_zero o (λ s. cond ((g.T.Trellis.meaning c.args.t.now).last s) (get_or c.args.column.now s o.none) o.none))

pub loop-s-preserved : goal.loop-s-preserved
loop-s-preserved g c =
    let o = g.W.Weights.ops in
    let m = g.T.Trellis.meaning c.args.t.now in
    let tb = c.args.column.now in
    let s = c.loop-s.s in
    let f : ℕ → _ = λ s. cond (m.last s) (get_or tb s o.none) o.none in
    let value : c.if-last.x ≡ f s =
    elim c.if-last.branch [
      | then-last w ↦ w.x-is ∙ get_or_read tb s c.index-column-s.result (omega arith) c.index-column-s.is o.none
          ∙ ap (λ b. cond b (get_or tb s o.none) o.none) (sym w.if-last.true ∙ c.last.ensures)
      | else-last w ↦ w.x-is ∙ w.none-x.ensures ∙ ap (λ b. cond b (get_or tb s o.none) o.none) (sym w.if-last.false ∙ c.last.ensures)
    ] in
    c.join-sum.ensures ∙ ap (λ z. o.join z c.if-last.x) c.loop-s.invariant ∙ ap (o.join (join_below o s f)) value ∙ sym (below_suc o s f) ∙ ap (λ n. join_below o n f) (sym (add-one s))
