use Rattle.std.proofs.Common.{◌≡◌, ℕ, ◌+◌, ◌*◌, cond, sym, ap, ◌∙◌, add-one}
use Rattle.std.specs.Prelude.{slice_range}
use Rattle.paths.specs.Columns.{join_below}
use Rattle.passes.specs.Totals.{in_last}
use Rattle.passes.proofs.Dots.{below_zero, below_suc}
use Rattle.passes.proofs.totals.first_to_last.Goals as goal
use Rattle.passes.proofs.totals.first_to_last.Goals.{then-first, else-first}

pub loop-s-init : goal.loop-s-init
loop-s-init g c =
    let o = g.W.Weights.ops in
    let w = g.T.Trellis.states in
    let m = g.T.Trellis.meaning c.args.t.now in
    c.none-sum.ensures ∙ sym (below_zero o (λ s. cond (m.first s) (in_last o w m (slice_range c.args.metastage.now (s * w) ((s + 1) * w))) o.none))

pub loop-s-preserved : goal.loop-s-preserved
loop-s-preserved g c =
    let o = g.W.Weights.ops in
    let w = g.T.Trellis.states in
    let m = g.T.Trellis.meaning c.args.t.now in
    let tb = c.args.metastage.now in
    let s = c.loop-s.s in
    let f : ℕ → _ = λ s. cond (m.first s) (in_last o w m (slice_range tb (s * w) ((s + 1) * w))) o.none in
    let value : c.if-first.x ≡ f s =
    elim c.if-first.branch [
      | then-first u ↦ u.x-is ∙ u.last_states-x.ensures
          ∙ ap (λ v. in_last o w m (slice_range tb (s * v) ((s + 1) * v))) c.state_count-states.ensures
          ∙ ap (λ b. cond b (in_last o w m (slice_range tb (s * w) ((s + 1) * w))) o.none) (sym u.if-first.true ∙ c.first.ensures)
      | else-first u ↦ u.x-is ∙ u.none-x.ensures ∙ ap (λ b. cond b (in_last o w m (slice_range tb (s * w) ((s + 1) * w))) o.none) (sym u.if-first.false ∙ c.first.ensures)
    ] in
    c.join-sum.ensures ∙ ap (λ z. o.join z c.if-first.x) c.loop-s.invariant ∙ ap (o.join (join_below o s f)) value ∙ sym (below_suc o s f) ∙ ap (λ n. join_below o n f) (sym (add-one s))
