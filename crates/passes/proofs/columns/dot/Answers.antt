use Rattle.std.proofs.Common.{◌≡◌, ℕ, ◌+◌, ◌*◌, get_or, sym, ap, ◌∙◌, add-one, arith}
use Rattle.std.proofs.lemmas.List.{get_or_read}
use Rattle.std.proofs.lemmas.List.Edits.{length-between, get_or-between}
use Rattle.std.specs.Prelude.{slice_range}
use Rattle.passes.specs.Tables.{dotted}
use Rattle.passes.proofs.Dots.{below_zero, below_suc}
use Rattle.passes.proofs.columns.dot.Goals as goal

pub loop-x-init : goal.loop-x-init
loop-x-init g c =
    let o = g.W.Weights.ops in
    let tb = c.args.table.now in
    c.none-sum.ensures ∙ sym (below_zero o (λ x. o.chain (get_or tb (c.args.from + x) o.none) (get_or tb (c.args.meta + x * c.args.row) o.none)))

pub loop-x-preserved : goal.loop-x-preserved
loop-x-preserved g c =
    let o = g.W.Weights.ops in
    let tb = c.args.table.now in
    let x = c.loop-x.x in
    let u = c.requires.entries x (omega arith) in
    let f : ℕ → _ = λ x. o.chain (get_or tb (c.args.from + x) o.none) (get_or tb (c.args.meta + x * c.args.row) o.none) in
    let n = c.args.from + c.args.states in
    let a = get_or_read (slice_range tb c.args.from n) x c.left-item.result (omega (arith, length-between tb c.args.from n)) c.left-item.is o.none ∙ get_or-between tb c.args.from n x o.none (omega arith) in
    let b = get_or_read tb (c.args.meta + x * c.args.row) c.index-table-meta.result (omega arith) c.index-table-meta.is o.none in
    let y = c.chain.ensures in
    let z : c.chain.result ≡ f x = cc in
    c.join-sum.ensures ∙ ap (λ v. o.join v c.chain.result) c.loop-x.invariant ∙ ap (o.join (dotted o x tb c.args.from c.args.meta c.args.row)) z
    ∙ sym (below_suc o x f) ∙ ap (λ n. dotted o n tb c.args.from c.args.meta c.args.row) (sym (add-one x))
