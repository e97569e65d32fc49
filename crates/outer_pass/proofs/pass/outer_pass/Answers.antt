use Rattle.std.proofs.Common.{◌≡◌, ◌+◌, ◌*◌, get_or, pos, sym, ap, ◌∙◌, arith, w16, SFits, to_z, of_z, rules}
use Rattle.std.proofs.lemmas.Int.{to_z-of_z}
use Rattle.trellises.specs.declared.outer.Outer.{Outer}
use Rattle.ways.specs.WorkTables.{work_entry}
use Rattle.outer_pass.specs.OuterPass.{outer_extrinsic, data_reliability, decision, outer_extrinsics, data_reliabilities, decisions}
use Rattle.outer_pass.proofs.Fronts.{front_none, front_more, front_two, front_all}
use Rattle.outer_pass.proofs.Stages.{same_meaning, of_same, decision_is, found_is, small, sent_is}
use Rattle.outer_pass.proofs.pass.outer_pass.Goals as goal

pub stage_reliabilities-requires : goal.stage_reliabilities-requires
stage_reliabilities-requires c =
    let t = c.new.result.trellis.now in
    let e = c.new.ensures.trellis in
    let n : t.n ≡ c.args.t.now.n = ap (λ (t : Outer). t.n) e in
    record {
      long = omega arith;
      worked = λ p h. c.work.ensures.table p (omega arith) ∙ ap (λ m. work_entry c.args.way 4 m p) (sym (same_meaning t c.args.t.now e));
      cheap = omega arith;
      served = λ e. (omega arith, omega arith);
    }

pub bounds-found-k : goal.bounds-found-k
bounds-found-k c = omega arith

pub bounds-decided-k : goal.bounds-decided-k
bounds-decided-k c = omega arith

pub narrow-requires : goal.narrow-requires
narrow-requires c =
    small c.args.t.now.n c.args.t.now.priors.now c.loop-k.k _ (c.requires.sizes, omega arith) c.loop-k-test.true
    (of_same _ _ _ c.loop-k.k 2 _ (c.stage_reliabilities.ensures.told 2 (omega arith))
    (same_meaning c.new.result.trellis.now c.args.t.now c.new.ensures.trellis) c.new.ensures.number)

pub loop-k-init : goal.loop-k-init
loop-k-init c = (
  front_none (outer_extrinsic c.args.t.now.n c.args.t.now.priors.now) (2 * c.args.t.now.n) c.args.out.now,
  front_none (data_reliability c.args.t.now.n c.args.t.now.priors.now) c.args.t.now.n c.args.found.now,
  front_none (decision c.args.t.now.n c.args.t.now.priors.now) c.args.t.now.n c.args.decided.now,
)

pub loop-k-preserved : goal.loop-k-preserved
loop-k-preserved c =
    let n = c.args.t.now.n in
    let priors = c.args.t.now.priors.now in
    let k = c.loop-k.k in
    let means = same_meaning c.new.result.trellis.now c.args.t.now c.new.ensures.trellis in
    let zeroth = of_same _ _ _ k 0 _ (c.stage_reliabilities.ensures.told 0 (omega arith)) means c.new.ensures.number in
    let first = of_same _ _ _ k 1 _ (c.stage_reliabilities.ensures.told 1 (omega arith)) means c.new.ensures.number in
    let data_bit = of_same _ _ _ k 2 _ (c.stage_reliabilities.ensures.told 2 (omega arith)) means c.new.ensures.number in
    let p : SFits w16 (get_or priors (2 * k) (pos 0)) = search rules in
    let q : SFits w16 (get_or priors (2 * k + 1) (pos 0)) = search rules in
    let x : SFits w16 c.told.result = search rules in
    let y : SFits w16 c.told-in-loop-k.result = search rules in
    let z : SFits w16 c.narrow.result = search rules in (
      front_two (outer_extrinsic n priors) k n c.args.out.now c.loop-k.out (to_z w16 (of_z w16 c.told.result)) (to_z w16 (of_z w16 c.told-in-loop-k.result)) (omega arith) (omega arith) c.loop-k.invariant.0
          (to_z-of_z w16 c.told.result x ∙ sent_is n priors k _ 0 (omega arith) (2 * k) (omega arith) c.told.result _ (to_z-of_z w16 (get_or priors (2 * k) (pos 0)) p) zeroth c.told.ensures)
          (to_z-of_z w16 c.told-in-loop-k.result y ∙ sent_is n priors k _ 1 (omega arith) (2 * k + 1) (omega arith) c.told-in-loop-k.result _ (to_z-of_z w16 (get_or priors (2 * k + 1) (pos 0)) q) first c.told-in-loop-k.ensures),
      front_more (data_reliability n priors) k n c.args.found.now c.loop-k.found (to_z w16 (of_z w16 c.narrow.result)) (omega arith) (omega arith) c.loop-k.invariant.1
          (to_z-of_z w16 c.narrow.result z ∙ found_is n priors k _ c.narrow.result data_bit c.narrow.ensures),
      front_more (decision n priors) k n c.args.decided.now c.loop-k.decided c.decide.result (omega arith) (omega arith) c.loop-k.invariant.2
          (decision_is n priors k _ c.decide.result data_bit c.decide.ensures),
    )

pub returns : goal.returns
unfolding outer_extrinsics data_reliabilities decisions
returns c =
    let n = c.args.t.now.n in
    let priors = c.args.t.now.priors.now in
    let e : c.loop-k.k ≡ n = omega arith in
    let d : 2 * c.loop-k.k ≡ 2 * n = omega arith in
    record {
      sent = front_all (outer_extrinsic n priors) (2 * c.loop-k.k) (2 * n) c.args.out.now c.loop-k.out c.loop-k.invariant.0 d;
      sent_tail = c.loop-k.invariant.0.tail;
      reliabilities = front_all (data_reliability n priors) c.loop-k.k n c.args.found.now c.loop-k.found c.loop-k.invariant.1 e;
      reliabilities_tail = c.loop-k.invariant.1.tail;
      bits = front_all (decision n priors) c.loop-k.k n c.args.decided.now c.loop-k.decided c.loop-k.invariant.2 e;
      bits_tail = c.loop-k.invariant.2.tail;
      worked = c.work.ensures.whole;
    }
