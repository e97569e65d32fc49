-- The place of two states lies in the frame.
use Rattle.std.proofs.Common.{◌+◌, ◌*◌, ◌<◌, length, arith}
use Rattle.std.proofs.lemmas.List.{get_or_default}
use Rattle.marginals.proofs.Frames.{place_low}
use Rattle.marginals.proofs.gather.offer.Goals as goal

pub listed : goal.listed
listed g c = let h = place_low c.args.from c.args.to c.args.states (omega arith) (omega arith) (omega arith) in omega arith

pub bounds-frame-from : goal.bounds-frame-from
bounds-frame-from g c = place_low c.args.from c.args.to c.args.states (omega arith) (omega arith) (omega arith)

pub returns : goal.returns
returns g c =
    let at = c.args.from * c.args.states + c.args.to in
    let h = place_low c.args.from c.args.to c.args.states (omega arith) (omega arith) (omega arith) in
    let low : at < length c.args.frame.now = omega arith in
    let same = get_or_default c.args.frame.now at c.index-frame-from.result g.W.Weights.ops.none low in
    cc
