use Rattle.std.proofs.Common.{◌≡◌, ◌+◌, ◌-◌, ◌*◌, ◌/◌, get_or, sym, ap, ◌∙◌, inl, inr, ⊎_elim, arith}
use Rattle.std.proofs.lemmas.Bool.{cases_lt}
use Rattle.passes.specs.Tables.{dotted}
use Rattle.passes.proofs.Dots.{dotted_same}
use Rattle.passes.proofs.Rows.{row_under, row_more, two_under}
use Rattle.passes.proofs.Rooms.{entry_room}
use Rattle.passes.proofs.metastages.pairs.Goals as goal

pub loop-j-preserved : goal.loop-j-preserved
loop-j-preserved g c =
    let o = g.W.Weights.ops in
    let w = c.args.states in
    let q = w * w in
    let to = c.args.to in
    let from = c.args.from in
    let old = c.args.table.now in
    let k = c.loop-j.j in
    let u = two_under k c.args.many q (omega arith) in
    let v = row_under k ((c.args.many + 1) / 2) q (omega arith) in (
      λ p h. c.product.ensures.kept p (⊎_elim (λ l. inl (omega arith)) (λ l. inr (omega arith)) h) ∙ c.loop-j.invariant.0 p h,
      λ j s t h small little.
          let r = entry_room s t w small little in
          ⊎_elim
          (λ before.
          let z = row_under j k q before in
          c.product.ensures.kept (to + j * q + (s * w + t)) (inl (omega arith)) ∙ c.loop-j.invariant.1 j s t before small little)
          (λ new.
          let is : k ≡ j = omega arith in
          ap (λ i. get_or c.product.new.table (to + i * q + (s * w + t)) o.none) (sym is)
          ∙ c.product.ensures.made s t small little
          ∙ dotted_same o w c.loop-j.table old (from + 2 * k * q + s * w) (from + 2 * k * q + q + t) w
          (λ x h. let e = entry_room s x w small h in c.loop-j.invariant.0 (from + 2 * k * q + s * w + x) (inl (omega arith)))
          (λ x h. let e = entry_room x t w h little in c.loop-j.invariant.0 (from + 2 * k * q + q + t + x * w) (inl (omega arith)))
          ∙ ap (λ i. dotted o w old (from + 2 * i * q + s * w) (from + 2 * i * q + q + t) w) is)
          (cases_lt j k),
    )

pub returns-then-many-eq1 : goal.returns-then-many-eq1
returns-then-many-eq1 g c =
    let w = c.args.states in
    let q = w * w in
    let to = c.args.to in
    let many = c.args.many in
    let e : (many + 1) / 2 ≡ many / 2 + 1 = omega arith in
    let f = ap (λ a. a * q) e in
    let r = row_more (many / 2) q in
    let u = row_under (many - 1) many q (omega arith) in
    record {
      kept = λ p h. c.copy.ensures.kept p (⊎_elim (λ l. inl (omega arith)) (λ l. inr (omega arith)) h) ∙ c.loop-j.invariant.0 p h;
      made = λ j s t h small little.
          let x = entry_room s t w small little in
          let z = row_under j (many / 2) q h in
          c.copy.ensures.kept (to + j * q + (s * w + t)) (inl (omega arith)) ∙ c.loop-j.invariant.1 j s t (omega arith) small little;
      odd = λ o i h. c.copy.ensures.same i h ∙ c.loop-j.invariant.0 (c.args.from + (many - 1) * q + i) (inl (omega arith));
    }
