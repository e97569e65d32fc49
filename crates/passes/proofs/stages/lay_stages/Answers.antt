use Rattle.std.proofs.Common.{rules, ◌≡◌, ℕ, ◌+◌, ◌-◌, ◌*◌, ◌<◌, get_or, sym, ap, ◌∙◌, inl, inr, ⊎_elim, arith}
use Rattle.std.proofs.lemmas.Bool.{cases_lt}
use Rattle.std.proofs.lemmas.List.{places}
use borrow.Rule.Slice.PartMut.{put_mid}
use Rattle.paths.specs.Columns.{parallel}
use Rattle.passes.specs.Tables.{Kept, stage_at}
use Rattle.passes.proofs.Rows.{row_under}
use Rattle.passes.proofs.Rooms.{entry_room}
use Rattle.passes.proofs.stages.lay_stages.Goals as goal

pub loop-k-preserved : goal.loop-k-preserved
loop-k-preserved g c =
    let o = g.W.Weights.ops in
    let w = g.T.Trellis.states in
    let m = g.T.Trellis.meaning c.args.t.now in
    let v = c.state_count-states.result in
    let k = c.loop-k.k in
    let base = c.args.base in
    let place = base + k * (v * v) in
    let square = c.lay_stage.new.metastage in
    let new = put_mid place (place + v * v - place) c.loop-k.table square in
    let q : v * v ≡ w * w = ap (λ v. v * v) c.state_count-states.ensures in
    let e : k * (v * v) ≡ k * (w * w) = ap (λ q. k * q) q in
    let u = row_under k m.stages (w * w) (omega arith) in
    let kept : Kept o place (v * v) c.loop-k.table new = λ p out. search (rules, places) in
    let made : (i : ℕ) → i < v * v → get_or new (place + i) o.none ≡ get_or square i o.none = λ i h. search (rules, places) in (
      λ p h. kept p (⊎_elim (λ l. inl (omega arith)) (λ l. inr (omega arith)) h) ∙ c.loop-k.invariant.0 p h,
      λ j x y h small little.
          let r = entry_room x y w small little in
          ⊎_elim
          (λ old.
          let z = row_under j k (w * w) old in
          kept (stage_at base w j x y) (inl (omega arith)) ∙ c.loop-k.invariant.1 j x y old small little)
          (λ new_one.
          let is : j ≡ k = omega arith in
          ap (λ i. get_or new (stage_at base w i x y) o.none) is
          ∙ ap (λ a. get_or new (base + a + (x * w + y)) o.none) (sym e)
          ∙ made (x * w + y) (omega arith)
          ∙ rw (c.new.ensures.trellis, c.new.ensures.number) at (c.lay_stage.ensures x y small little)
          ∙ ap (λ i. parallel o (m.edges i) x y) (sym is))
          (cases_lt j k),
    )
