use Rattle.std.proofs.Common.{◌≡◌, true, length, sym, ap, ◌∙◌, subst, arith}
use Rattle.cost_file.specs.Files.{written, lengths_fit}
use Rattle.cost_file.specs.Promises.{kept, Laid}
use Rattle.cost_file.specs.Contents.{kept_of}
use Rattle.cost_file.proofs.Wrote.{wrote}
use Rattle.cost_file.proofs.writer.write.Goals as goal
use Rattle.cost_file.proofs.writer.write.Goals.{In_ok-contents}

-- the contents are what is handed over
same : (c : In_ok-contents) → kept_of c.in_ok-contents.contents ≡ kept c.args.values c.args.rows.now c.args.payload
same c = c.in_ok-contents.ensures.cases ∙ ap (λ v. kept v c.args.rows.now c.args.payload) c.in_ok-plan.ensures.cases.0

fits : (c : In_ok-contents) → lengths_fit (kept c.args.values c.args.rows.now c.args.payload) ≡ true
fits c = ap lengths_fit (sym (same c)) ∙ c.in_ok-contents.contents.fits

pub returns : goal.returns
returns c =
    let d = (goal.at.returns c).In_ok-contents in
    let all = kept c.args.values c.args.rows.now c.args.payload in
    let n = c.size-size.ensures.value ∙ ap (λ x. length (written x)) (same d) in
    let laid = subst (λ x. Laid x c.args.out.now c.lay.new.out) (same d) c.lay.ensures.after in
    record { cases = wrote all c.size-size.result c.args.out.now c.lay.new.out c.in_ok-plan.ensures.cases.1 (fits d) n (omega arith) (omega arith) laid }
