use Rattle.std.proofs.Common.{refl}
use Rattle.cost_file.proofs.Handed.{row_handed}
use Rattle.cost_file.proofs.reader.CostFile.record_at.Goals as goal

pub returns-then-number-symbols-clause-value : goal.returns-then-number-symbols-clause-value
returns-then-number-symbols-clause-value c =
    let x = c.args.self.now in
    row_handed x.file.now x.plan.values _ c.args.number c.symbols-symbols.result c.slots.result c.row_at-offset.result x.whole c.symbols-symbols.ensures.value c.slots.ensures.value c.if-number-eq0.false c.if-number-symbols.true c.row_at-offset.ensures.value refl
