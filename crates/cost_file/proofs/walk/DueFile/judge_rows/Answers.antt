use Rattle.std.proofs.Common.{◌+◌, ap, ◌∙◌}
use Rattle.std.proofs.lemmas.Result.{err_from_is_err_and}
use Rattle.cost_file.specs.Records.{record_fault}
use Rattle.cost_file.proofs.Judged.{row_passes, row_fails}
use Rattle.cost_file.proofs.walk.DueFile.judge_rows.Goals as goal

pub loop-k-preserved : goal.loop-k-preserved
loop-k-preserved c =
    let h = c.in-Some.ensures.steps in
    rw (h.2, h.0.0)
    (row_passes _ _ _ _ _ _ _ c.loop-k.invariant h.0.1.0 h.0.1.1 (c.in_ok-judge.ensures.value ∙ ap (λ n. record_fault 2 (n + 1) c.in-Some.record.now) h.1))

pub returns-in_err-judge : goal.returns-in_err-judge
returns-in_err-judge c =
    let h = c.in-Some.ensures.steps in
    let p = err_from_is_err_and c.from_residual.result c.from_residual.ensures.1 in
    rw (p.1, p.2)
    record { value = row_fails _ _ _ _ _ _ _ _ c.loop-k.invariant h.0.1.0 h.0.1.1 (c.in_err-judge.ensures.value ∙ ap (λ n. record_fault 2 (n + 1) c.in-Some.record.now) h.1) }
