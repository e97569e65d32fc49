use Rattle.std.proofs.Common.{rules, ◌≡◌, ℕ, ◌+◌, ◌*◌, ◌<◌, List, ◌++◌, cond, get_or, take, drop, sym, ap, ◌∙◌, arith}
use Rattle.std.proofs.lemmas.List.{places, get_or_append_left, get_or-take}
use Rattle.std.proofs.lemmas.List.Edits.{get_or-between}
use Rattle.std.specs.Prelude.{slice_range}
use Rattle.paths.specs.Paths.{before, path_join}
use Rattle.paths.specs.Columns.{forward}
use Rattle.paths.proofs.Passes.{columns_are_joins}
use Rattle.passes.proofs.Sums.{last_column, forward_by_edges}
use Rattle.passes.proofs.Halves.{Turned, even_place, odd_place, in_left, in_right, to_right, to_left}
use Rattle.passes.proofs.totals.total.Goals as goal
use Rattle.passes.proofs.totals.total.Goals.{then-before-after, else-before-after}

pub loop-k-init : goal.loop-k-init
unfolding forward
loop-k-init g c =
    let o = g.W.Weights.ops in
    let m = g.T.Trellis.meaning c.args.t.now in
    let w = g.T.Trellis.states in
    let v = c.state_count-states.result in
    let old = c.args.columns.now in
    let is = c.state_count-states.ensures in
    record {
      here = omega arith;
      there = omega arith;
      last = λ s h.
          let made = c.border.ensures s (search (rules, places)) in
          let first : made.0 ≡ m.first s = search rules in
          let at : 0 * w + s ≡ s = omega arith in
          ap (λ p. get_or (c.border.new.column ++ drop v old) p o.none) at ∙ get_or_append_left c.border.new.column (drop v old) o.none s (search (rules, places)) ∙ made.2 ∙ ap (λ b. cond b o.unit o.none) first;
      before = λ k s q h. absurd (omega arith);
      rest = λ p h. search (rules, places);
    }

pub loop-k-preserved : goal.loop-k-preserved
loop-k-preserved g c =
    let o = g.W.Weights.ops in
    let laws = g.met.W.Semiring.laws in
    let m = g.T.Trellis.meaning c.args.t.now in
    let law = g.T.Trellis.lawful c.args.t.now in
    let w = g.T.Trellis.states in
    let v = c.state_count-states.result in
    let is : v ≡ w = c.state_count-states.ensures in
    let k = c.loop-k.k in
    let cs = c.loop-k.columns in
    let l = c.split_at_mut-left.result.0.now in
    let r = c.split_at_mut-left.result.1.now in
    let low = λ (i : ℕ) (h : i < w). c.split_at_mut-left.ensures.by_index.0 i o.none (omega arith) in
    let high = λ (i : ℕ). c.split_at_mut-left.ensures.by_index.1 i o.none ∙ ap (λ v. get_or cs (v + i) o.none) is in
    let fewer = c.loop-k-test.true in
    let here : k < m.stages = omega arith in
    let new = c.if-before-after.columns in
    let turned : (a : List g.row.W-Value.Denot) × (Turned o.none w k cs a new × ((s : ℕ) → s < w → get_or a s o.none ≡ forward o w m (k + 1) s)) =
    elim c.if-before-after.branch [
      | then-before-after u ↦
          let a = u.carry_stage.new.after in
          let even = even_place k w c.loop-k.before c.loop-k.after c.loop-k.invariant.here c.loop-k.invariant.there u.if-before-after.true in (
            a,
            (
              to_right o.none w k cs l r low high a new (omega arith) (search (rules, places)) (u.columns-is ∙ ap (λ v. l ++ (a ++ drop v r)) is) even,
              λ s h.
                  rw (c.new-stage.ensures.trellis, c.new-stage.ensures.number) at (u.carry_stage.ensures s h)
                  ∙ forward_by_edges laws m law l k here (λ s h. low s h ∙ ap (λ p. get_or cs p o.none) (sym (in_left _ w s even)) ∙ c.loop-k.invariant.last s h) s h,
            ),
          )
      | else-before-after u ↦
          let a = u.carry_stage-else-before-after.new.after in
          let some = law.some_states in
          let odd = odd_place k w c.loop-k.before c.loop-k.after (omega arith) c.loop-k.invariant.here c.loop-k.invariant.there u.if-before-after.false in (
            a,
            (
              to_left o.none w k cs l r low high a new (search (rules, places)) u.columns-is odd,
              λ s h.
                  rw (c.new-stage.ensures.trellis, c.new-stage.ensures.number) at (u.carry_stage-else-before-after.ensures s h)
                  ∙ forward_by_edges laws m law (take v r) k here
                  (λ s h. get_or-take v r s o.none (omega arith) ∙ high s ∙ ap (λ p. get_or cs p o.none) (sym (in_right _ w s odd)) ∙ c.loop-k.invariant.last s h) s h,
            ),
          )
    ] in
    record {
      here = c.swap.ensures.x_after ∙ c.loop-k.invariant.there;
      there = c.swap.ensures.y_after ∙ c.loop-k.invariant.here ∙ ap (λ e. e * w) (omega arith);
      last = λ s h. turned.1.0.0 s h ∙ turned.1.1 s h;
      before = λ j s q h. let e : k ≡ j = omega arith in turned.1.0.1 s h ∙ c.loop-k.invariant.last s h ∙ ap (λ n. forward o w m n s) e;
      rest = λ p h. turned.1.0.2 p h ∙ c.loop-k.invariant.rest p h;
    }

pub returns-clause-joined : goal.returns-clause-joined
returns-clause-joined g c =
    let o = g.W.Weights.ops in
    let laws = g.met.W.Semiring.laws in
    let m = g.T.Trellis.meaning c.args.t.now in
    let law = g.T.Trellis.lawful c.args.t.now in
    let w = g.T.Trellis.states in
    let v = c.state_count-states.result in
    let k = c.loop-k.k in
    let b = c.loop-k.before in
    let cs = c.loop-k.columns in
    let e : k ≡ m.stages = omega arith in
    c.last_states.ensures
    ∙ last_column laws m law (slice_range cs b (b + v))
    (λ s h. get_or-between cs b (b + v) s o.none (omega arith) ∙ ap (λ a. get_or cs (a + s) o.none) c.loop-k.invariant.here ∙ c.loop-k.invariant.last s h
    ∙ (columns_are_joins laws w _ _ m law).forth k s (omega arith) h ∙ ap (λ n. path_join o (before w m n s)) e)
