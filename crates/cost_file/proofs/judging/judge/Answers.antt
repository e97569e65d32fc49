use Rattle.std.proofs.Common.{◌<◌, ◌≤◌, true, false, length, Some, sym, refl, ap, ◌∙◌, arith, ltb-false, ltb-true}
use Rattle.plans.specs.declared.refusals.Refusal.TheVariants.{RecordCheck, RecordHead}
use Rattle.cost_file.specs.declared.faults.Layer.TheVariants.{File}
use Rattle.cost_file.specs.Records.{kind_of, head_of, fault}
use Rattle.cost_file.proofs.Laying.{four_bytes}
use Rattle.cost_file.proofs.Judged.{too_short, judged}
use Rattle.cost_file.proofs.judging.judge.Goals as goal

pub returns-in_default : goal.returns-in_default
returns-in_default c =
    let l : length c.args.bytes.now < 4 = omega (arith, ltb-true) in
    record {
      value = ap Some c.new.ensures.value ∙ ap (λ n. Some (fault RecordCheck n File)) c.from-record.ensures
          ∙ sym (too_short (kind_of c.args.due) c.args.number c.args.bytes.now l);
    }

pub returns-then-ne : goal.returns-then-ne
returns-then-ne c =
    let l : 4 ≤ length c.args.bytes.now = omega (arith, ltb-false) in
    record {
      value = ap Some c.new-then-ne.ensures.value ∙ ap (λ n. Some (fault RecordCheck n File)) c.from-record.ensures
          ∙ judged (kind_of c.args.due) c.args.number c.check.result c.args.bytes.now c.to_be_bytes-sum.result (head_of (kind_of c.args.due) c.args.number) true _
          l c.check.ensures.value (c.to_be_bytes-sum.ensures ∙ sym (four_bytes c.check.result)) (sym c.if-ne.true ∙ c.ne.ensures) refl refl;
    }

pub returns-then-ne-2 : goal.returns-then-ne-2
returns-then-ne-2 c =
    let l : 4 ≤ length c.args.bytes.now = omega (arith, ltb-false) in
    record {
      value = ap Some c.new-then-ne-2.ensures.value ∙ ap (λ n. Some (fault RecordHead n File)) c.from-record.ensures
          ∙ judged (kind_of c.args.due) c.args.number c.check.result c.args.bytes.now c.to_be_bytes-sum.result c.head.result false true
          l c.check.ensures.value (c.to_be_bytes-sum.ensures ∙ sym (four_bytes c.check.result)) (sym c.if-ne.false ∙ c.ne.ensures) c.head.ensures.value (sym c.if-ne-2.true ∙ c.ne-2.ensures);
    }

pub returns : goal.returns
returns c =
    let l : 4 ≤ length c.args.bytes.now = omega (arith, ltb-false) in
    record {
      value = judged (kind_of c.args.due) c.args.number c.check.result c.args.bytes.now c.to_be_bytes-sum.result c.head.result false false
          l c.check.ensures.value (c.to_be_bytes-sum.ensures ∙ sym (four_bytes c.check.result)) (sym c.if-ne.false ∙ c.ne.ensures) c.head.ensures.value (sym c.if-ne-2.false ∙ c.ne-2.ensures);
    }
