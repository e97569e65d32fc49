-- What is folded are joins of the candidates of the edges.
use Rattle.std.proofs.Common.{◌≤◌, length, take, get_or, length-take, mul-le-mul, subst, arith, ◌≡◌, suc, ◌*◌, ◌-◌, ◌∙◌, ap, rules}
use Rattle.marginals.specs.Halves.{held, halved}
use Rattle.marginals.specs.Words.{neither}
use Rattle.marginals.proofs.Frames.{FrameLaid, frame_of}
use Rattle.marginals.proofs.Stages.{stage_zeros, stage_ones, word_left}
use Rattle.marginals.proofs.bits.marginals.Goals as goal

pub lay_frame-requires-clause-room : goal.lay_frame-requires-clause-room
lay_frame-requires-clause-room g c =
    let n = c.state_count-states.result in
    let few : n ≤ 16 = omega (arith, (g.T.Trellis.lawful c.args.stage.now.trellis.now).few_states, c.state_count-states.ensures) in
    let b : length (take n c.args.before.now) ≤ 16 = omega (arith, length-take n c.args.before.now) in
    let a : length (take n c.args.after.now) ≤ 16 = omega (arith, length-take n c.args.after.now) in
    let square = mul-le-mul b a in
    omega arith

pub returns-clause-zero : goal.returns-clause-zero
returns-clause-zero g c =
    let s = c.args.stage.now in
    let o = g.W.Weights.ops in
    stage_zeros o (g.T.Trellis.meaning s.trellis.now) (g.T.Trellis.lawful s.trellis.now) s.number s.inside c.lay_frame.new.frame c.gather.new.words c.args.before.now c.args.after.now
    c.bits-bits.result c.bits-bits.ensures
    (subst (λ n. FrameLaid o c.args.before.now c.args.after.now n n c.lay_frame.new.frame) c.state_count-states.ensures
    (frame_of o c.args.before.now c.args.after.now c.lay_frame.new.frame c.state_count-states.result (omega arith) (omega arith) c.lay_frame.ensures.laid))
    c.gather.ensures.words (λ b. (get_or c.fold.new.found b (neither o)).zero) c.fold.ensures.zero

pub returns-clause-one : goal.returns-clause-one
returns-clause-one g c =
    let s = c.args.stage.now in
    let o = g.W.Weights.ops in
    stage_ones o (g.T.Trellis.meaning s.trellis.now) (g.T.Trellis.lawful s.trellis.now) s.number s.inside c.lay_frame.new.frame c.gather.new.words c.args.before.now c.args.after.now
    c.bits-bits.result c.bits-bits.ensures
    (subst (λ n. FrameLaid o c.args.before.now c.args.after.now n n c.lay_frame.new.frame) c.state_count-states.ensures
    (frame_of o c.args.before.now c.args.after.now c.lay_frame.new.frame c.state_count-states.result (omega arith) (omega arith) c.lay_frame.ensures.laid))
    c.gather.ensures.words (λ b. (get_or c.fold.new.found b (neither o)).one) c.fold.ensures.one

pub returns-clause-room : goal.returns-clause-room
returns-clause-room g c =
    let s = c.args.stage.now in
    let o = g.W.Weights.ops in
    let m = g.T.Trellis.meaning s.trellis.now in
    let law = g.T.Trellis.lawful s.trellis.now in
    let S = c.state_count-states.result in
    let is = c.state_count-states.ensures in
    let n = c.bits-bits.result in
    let wide = c.bits-bits.ensures in
    let before = c.args.before.now in
    let after = c.args.after.now in
    let b_long : length (take S before) ≡ S = omega (arith, length-take S before) in
    let a_long : length (take S after) ≡ S = omega (arith, length-take S after) in
    let square : length (take S before) * length (take S after) ≡ S * S = ap (λ n. n * length (take S after)) b_long ∙ ap (λ n. S * n) a_long in
    let laid = subst (λ n. FrameLaid o before after n n c.lay_frame.new.frame) is (frame_of o before after c.lay_frame.new.frame S (omega arith) (omega arith) c.lay_frame.ensures.laid) in
    let word = word_left o m law s.number s.inside c.lay_frame.new.frame c.gather.new.words before after n wide laid c.gather.ensures.words in
    record {
      costs = c.gather.ensures.costs;
      costs_rest = c.gather.ensures.costs_rest;
      frame = laid;
      frame_rest = λ p h. c.lay_frame.ensures.rest p (rw square (rw is h));
      first_word = word 0 0 (omega arith) (search rules) _ (c.fold.ensures.first ∙ ap (λ k. halved o (held o c.gather.new.words) 0 k 0) (let z : n ≡ n - 0 = omega arith in z));
      words = λ b x low above below. word (suc b) x low below _ (c.fold.ensures.left b x (omega arith) above below);
      words_rest = λ x h. c.fold.ensures.rest x (rw wide h) ∙ c.gather.ensures.words_rest x h ∙ c.clear.ensures.rest x (rw wide h);
      bits_rest = λ b h. c.fold.ensures.found_rest b (omega arith);
    }
