use Rattle.std.proofs.Common.{◌≡◌, ◌+◌, ◌*◌, get_or, ap, ◌∙◌, arith}
use Rattle.std.proofs.lemmas.List.Edits.{get_or-between}
use Rattle.std.specs.Prelude.{slice_range}
use Rattle.paths.proofs.Passes.{columns_are_joins}
use Rattle.passes.proofs.Sums.{last_column}
use Rattle.passes.proofs.totals.by_columns.Goals as goal

pub returns : goal.returns
returns g c =
    let o = g.W.Weights.ops in
    let laws = g.met.W.Semiring.laws in
    let w = g.T.Trellis.states in
    let m = g.T.Trellis.meaning c.args.t.now in
    let law = g.T.Trellis.lawful c.args.t.now in
    let tb = c.args.table.now in
    let v = c.state_count-states.result in
    let last = c.stages.result * v in
    let at : last ≡ m.stages * w = ap (λ v. c.stages.result * v) c.state_count-states.ensures ∙ ap (λ n. n * w) c.stages.ensures in
    c.last_states.ensures
    ∙ last_column laws m law (slice_range tb last (last + v))
    (λ s h. get_or-between tb last (last + v) s o.none (omega arith)
    ∙ ap (λ a. get_or tb (a + s) o.none) at ∙ c.requires.made m.stages s (omega arith) h ∙ (columns_are_joins laws w _ _ m law).forth m.stages s (omega arith) h)
