-- Each row takes its place in the frame.
use Rattle.std.proofs.Common.{◌≡◌, length, arith, ◌+◌, ◌-◌, ◌*◌, ◌∙◌}
use Rattle.std.proofs.lemmas.List.{get_or_read}
use Rattle.marginals.specs.Words.{entry_of}
use Rattle.marginals.proofs.Frames.{row_under, frame_more, put_behind}
use Rattle.marginals.proofs.frame.lay_frame.Goals as goal

pub loop-s-preserved : goal.loop-s-preserved
loop-s-preserved g c =
    let o = g.W.Weights.ops in
    let states = length c.args.after.now in
    let under = row_under c.loop-s.s (length c.args.before.now) states (omega arith) in
    let x : c.index-before-s.result ≡ entry_of o c.args.before.now c.loop-s.s = get_or_read c.args.before.now c.loop-s.s c.index-before-s.result (omega arith) c.index-before-s.is o.none in
    record {
      laid = frame_more o c.args.before.now c.args.after.now states c.loop-s.s _ c.loop-s.frame c.lay_row.new.row c.loop-s.invariant.laid (omega arith) (omega arith)
          (λ t h. let l = c.lay_row.ensures t h in cc);
      rest = λ p h.
          let next : (c.loop-s.s + 1) * states ≡ c.loop-s.s * states + states = omega arith in
          put_behind o.none (c.loop-s.s * states) (c.loop-s.s * states + states - c.loop-s.s * states) c.loop-s.frame c.lay_row.new.row (omega arith) (omega arith) (omega arith) p (omega arith) ∙ c.loop-s.invariant.rest p (omega arith);
    }

pub returns-clause-rest : goal.returns-clause-rest
returns-clause-rest g c p h = let e : c.loop-s.s ≡ length c.args.before.now = omega arith in c.loop-s.invariant.rest p (rw e h)
