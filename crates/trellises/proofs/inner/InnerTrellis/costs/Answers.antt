-- Penalties and row make the costs of the stage.
use Rattle.std.proofs.Common.{◌≡◌, ℕ, ◌*◌, ◌^◌, ◌<◌, get_or, length, ◌≤◌, ap, ◌∙◌, sym, subst, arith}
use Rattle.std.proofs.lemmas.List.{length-map}
use Rattle.std.proofs.lemmas.List.FromFn.{length-range_with_len}
use Rattle.trellises.specs.Priors.{penalties}
use Rattle.trellises.specs.Inner.{inner_at}
use Rattle.trellises.proofs.InnerEdges.{inner_laid}
use Rattle.trellises.proofs.inner.InnerTrellis.costs.Goals as goal
use Rattle.trellises.proofs.inner.InnerTrellis.costs.Goals.{After-word_penalties}

-- what each word pays by the priors of its bits
paid : (c : After-word_penalties) (w : ℕ) → w < 2 ^ c.args.self.now.m → get_or c.word_penalties.new.out w 0 ≡ penalties c.args.self.now.priors.now (c.args.k * c.args.self.now.m) w c.args.self.now.m
paid c w h = c.word_penalties.ensures.laid w (subst (λ n. w < 2 ^ n) (sym c.word_priors.ensures.len) h) ∙ c.word_priors.ensures.value w

pub returns-then-k-self-clause-laid : goal.returns-then-k-self-clause-laid
returns-then-k-self-clause-laid c =
    let t = c.args.self.now in
    inner_laid t.m t.n t.rows.now t.priors.now c.args.k (omega arith) (omega arith) c.row.result.now c.word_slots.result.now c.word_penalties.new.out
    c.add_row.new.out c.word_slots.ensures.len c.row.ensures.value c.word_slots.ensures.value
    (paid (goal.at.returns-then-k-self-clause-laid c).After-word_penalties) c.add_row.ensures.zero c.add_row.ensures.one

pub returns-then-k-self-clause-rest : goal.returns-then-k-self-clause-rest
returns-then-k-self-clause-rest c i here past =
    let m = c.args.self.now.m in
    let f = inner_at m c.args.self.now.rows.now c.args.self.now.priors.now c.args.k in
    let far : 2 * 2 ^ m ≤ i = simp (length-map, length-range_with_len) at past in
    let bits : 2 ^ length c.word_priors.result.now ≡ 2 ^ m = ap (λ n. 2 ^ n) c.word_priors.ensures.len in
    let slots = c.word_slots.ensures.len in
    c.add_row.ensures.rest i (omega arith) ∙ c.word_penalties.ensures.rest i (omega arith)
