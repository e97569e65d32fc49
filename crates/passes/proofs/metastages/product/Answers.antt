use Rattle.std.proofs.Common.{◌≡◌, ◌+◌, ◌*◌, get_or, sym, ap, ◌∙◌, inl, inr, ⊎_elim, arith}
use Rattle.std.proofs.lemmas.Bool.{cases_lt}
use Rattle.passes.specs.Tables.{dotted}
use Rattle.passes.proofs.Dots.{dotted_same}
use Rattle.passes.proofs.Rows.{row_under}
use Rattle.passes.proofs.Rooms.{entry_room}
use Rattle.passes.proofs.metastages.product.Goals as goal

pub loop-s-preserved : goal.loop-s-preserved
loop-s-preserved g c =
    let o = g.W.Weights.ops in
    let w = c.args.states in
    let k = c.loop-s.s in
    let to = c.args.to in
    let left = c.args.left in
    let right = c.args.right in
    let old = c.args.table.now in
    let u = row_under k w w (omega arith) in (
      λ p h. c.column.ensures.kept p (⊎_elim (λ l. inl (omega arith)) (λ l. inr (omega arith)) h) ∙ c.loop-s.invariant.0 p h,
      λ s t h b. ⊎_elim
          (λ before.
          let v = row_under s k w before in
          c.column.ensures.kept (to + (s * w + t)) (inl (omega arith)) ∙ c.loop-s.invariant.1 s t before b)
          (λ new.
          let is : s ≡ k = omega arith in
          let f = ap (λ i. i * w) is in
          let at : to + (s * w + t) ≡ to + k * w + t = omega arith in
          let one : right + t * 1 ≡ right + t = omega arith in
          ap (λ p. get_or c.column.new.table p o.none) at
          ∙ c.column.ensures.made t b
          ∙ ap (λ a. dotted o w c.loop-s.table (left + k * w) a w) one
          ∙ dotted_same o w c.loop-s.table old (left + k * w) (right + t) w
          (λ x small. c.loop-s.invariant.0 (left + k * w + x) (⊎_elim (λ l. inl (omega arith)) (λ l. inr (omega arith)) c.requires.apart.0))
          (λ x small. let e = entry_room x t w small b in c.loop-s.invariant.0 (right + t + x * w) (⊎_elim (λ l. inl (omega arith)) (λ l. inr (omega arith)) c.requires.apart.1))
          ∙ ap (λ i. dotted o w old (left + i) (right + t) w) (sym f))
          (cases_lt s k),
    )
