use Rattle.std.proofs.Common.{◌+◌, ap, ◌∙◌, arith}
use Rattle.std.specs.Iterator.Adapters.{enumerate_source, enumerate_count}
use Rattle.std.specs.Slice.Iter.{chunks_exact_rest}
use Rattle.cost_file.specs.Records.{packed}
use Rattle.cost_file.specs.Files.{row_at}
use Rattle.cost_file.specs.Contents.{kept_of}
use Rattle.cost_file.proofs.Sizes.{plan_sizes}
use Rattle.cost_file.proofs.Laying.{FirstRow, first_row, row_laid, all_put, fitting}
use Rattle.cost_file.proofs.writer.Contents.put_rows.Goals as goal
use Rattle.cost_file.proofs.writer.Contents.put_rows.Goals.{In-Some}

one : (c : In-Some) → FirstRow c.args.self.now.plan.values c.args.self.now.rows.now (enumerate_count c.loop-k.k-iterator) c.in-Some.row.now (chunks_exact_rest (enumerate_source c.next.new.self))
one c =
    let x = c.args.self.now in
    let h = c.in-Some.ensures.steps in
    first_row x.plan.values x.rows.now _ _ _ _ _ _ _ (fitting (kept_of x) x.fits).0 (let s = c.slots-slots.ensures.bound.0 in omega (arith, c.slots-slots.ensures.value)) c.loop-k.invariant h.0.1.0 h.0.1.1

pub row_at-at-requires : goal.row_at-at-requires
row_at-at-requires c =
    let d = (goal.at.row_at-at-requires c).In-Some in
    let i = (one d).inside in
    omega (arith, c.in-Some.ensures.steps.1)

pub overflow_cast-k : goal.overflow_cast-k
overflow_cast-k c =
    let d = (goal.at.overflow_cast-k c).In-Some in
    let i = (one d).inside in
    let z = (plan_sizes c.args.self.now.plan).symbols_high in
    omega (arith, c.in-Some.ensures.steps.1)

pub loop-k-preserved : goal.loop-k-preserved
loop-k-preserved c =
    let x = c.args.self.now in
    let h = c.in-Some.ensures.steps in
    let at = c.row_at-at.ensures.value ∙ ap (row_at x.plan.values) h.1 in
    let packs = c.pack.ensures.value ∙ ap (λ n. packed 2 (n + 1) c.in-Some.row.now) h.1 in
    rw (h.2, h.0.0)
    (row_laid x.plan.values _ _ c.row_at-at.result c.slots-slots.result _ _ _ c.loop-k.out x.rows.now c.args.out.now c.pack.new.part (fitting (kept_of x) x.fits).0 (let s = c.slots-slots.ensures.bound.0 in omega (arith, c.slots-slots.ensures.value)) c.loop-k.invariant h.0.1.0 h.0.1.1 at c.slots-slots.ensures.value (omega arith) packs)

pub returns-clause-front : goal.returns-clause-front
returns-clause-front c =
    let x = c.args.self.now in
    let e = all_put x.plan.values x.rows.now _ _ _ _ _ (fitting (kept_of x) x.fits).0 c.loop-k.invariant c.in-None.ensures.steps.0.1.0 in
    rw (← e) c.loop-k.invariant.front
