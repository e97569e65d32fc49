-- Each turn folds the highest bit that is left.
use Rattle.std.proofs.Common.{◌≡◌, ◌-◌, ◌<◌, length, ap, ◌∙◌, arith, rules}
use Rattle.marginals.specs.Halves.{held, halved}
use Rattle.marginals.proofs.Folds.{fold_start, fold_more}
use Rattle.marginals.proofs.halves.fold.Goals as goal

pub loop-b-init : goal.loop-b-init
loop-b-init g c = fold_start g.W.Weights.ops c.args.bits c.args.words.now c.args.found.now

pub loop-b-preserved : goal.loop-b-preserved
loop-b-preserved g c =
    let b = c.loop-b.b - 1 in
    let room : b < length c.loop-b.found = search rules in
    let h = c.halve-by.ensures in
    fold_more g.W.Weights.ops c.args.bits c.args.words.now b c.loop-b.b _ _ c.loop-b.words c.halve-by.new.words c.args.found.now c.loop-b.found c.halve-by.result _ _ c.loop-b.invariant
    (omega arith) (omega arith) room (omega arith) (omega arith) h.zero h.one h.after h.rest

pub returns : goal.returns
returns g c =
    let e : c.loop-b.b ≡ 0 = omega arith in
    let i = c.loop-b.invariant in
    record {
      zero = λ b h. i.low b (omega arith) h;
      one = λ b h. i.high b (omega arith) h;
      first = i.left 0 (search rules) ∙ ap (λ n. halved g.W.Weights.ops (held g.W.Weights.ops c.args.words.now) n (c.args.bits - n) 0) e ∙ ap (λ n. halved g.W.Weights.ops (held g.W.Weights.ops c.args.words.now) 0 n 0) (let z : c.args.bits - 0 ≡ c.args.bits = omega arith in z);
      left = λ b x h above below. i.behind b x (omega arith) h above below;
      rest = i.rest;
      found_rest = i.found_rest;
    }
