-- Each turn takes one word of each half.
use Rattle.std.proofs.Common.{◌^◌, ◌<◌, ◌∙◌, length, arith, rules}
use Rattle.marginals.proofs.Halvings.{half_start, half_more, all_zeros, all_ones, all_done}
use Rattle.marginals.proofs.halves.halve.Goals as goal

pub loop-x-init : goal.loop-x-init
loop-x-init g c = half_start g.W.Weights.ops _ _ _ _ c.none-zero.ensures c.none-one.ensures

pub loop-x-preserved : goal.loop-x-preserved
loop-x-preserved g c =
    let s = c.split_at_mut-lows in
    let room : c.loop-x.x < length s.result.1.now = search rules in
    half_more g.W.Weights.ops s.result.0.now s.result.1.now c.loop-x.x c.loop-x.lows _ _ c.loop-x.invariant (omega arith) room _ _ _ _ _ c.index-highs-x.is c.join-zero.ensures c.join-one.ensures c.join.ensures

pub returns-clause-zero : goal.returns-clause-zero
returns-clause-zero g c =
    let s = c.split_at_mut-lows in
    all_zeros g.W.Weights.ops s.result.0.now s.result.1.now (2 ^ c.args.b) c.loop-x.x c.args.words.now c.loop-x.lows _ _ c.loop-x.invariant s.ensures.value (s.ensures.front_len ∙ c.word_count.ensures) (omega arith)

pub returns-clause-one : goal.returns-clause-one
returns-clause-one g c =
    let s = c.split_at_mut-lows in
    all_ones g.W.Weights.ops s.result.0.now s.result.1.now (2 ^ c.args.b) c.loop-x.x c.args.words.now c.loop-x.lows _ _ c.loop-x.invariant s.ensures.value (s.ensures.front_len ∙ c.word_count.ensures) (omega arith)

pub returns-clause-after : goal.returns-clause-after
returns-clause-after g c =
    let s = c.split_at_mut-lows in
    all_done g.W.Weights.ops s.result.0.now s.result.1.now (2 ^ c.args.b) c.loop-x.x c.args.words.now c.loop-x.lows _ _ c.loop-x.invariant s.ensures.value (s.ensures.front_len ∙ c.word_count.ensures) (omega arith)
    (omega arith)
