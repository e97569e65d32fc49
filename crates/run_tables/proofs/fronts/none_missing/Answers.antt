use Rattle.std.proofs.Common.{◌≡◌, ◌<◌, Bool, not, ◌&&◌, eqb, take, get_or, get_or-take, length-take, sym, refl, ap, ◌∙◌, add-one, arith}
use Rattle.run_model.specs.Model.{none_missing}
use Rattle.run_tables.proofs.fronts.none_missing.Goals as goal

pub loop-mark-preserved : goal.loop-mark-preserved
loop-mark-preserved c =
    let marks = c.args.marks.now in
    let n = c.args.n in
    let k = c.loop-mark.mark-index in
    let h : k < n = omega (arith, length-take n marks) in
    let same : get_or (take n marks) k 0 ≡ get_or marks k 0 = rw get_or-take refl in
    ap (λ (b : Bool). b && not (eqb (get_or (take n marks) k 0) 0)) c.loop-mark.invariant
    ∙ ap (λ x. none_missing k marks && not (eqb x 0)) same
    ∙ ap (λ n. none_missing n marks) (sym (add-one k))

pub returns : goal.returns
returns c =
    let e : c.loop-mark.mark-index ≡ c.args.n = omega (arith, length-take c.args.n c.args.marks.now) in
    record { value = c.loop-mark.invariant ∙ ap (λ n. none_missing n c.args.marks.now) e }
