-- Each turn joins one edge to its word.
use Rattle.std.proofs.Common.{◌≡◌, ◌^◌, ◌<◌, take, get_or, length, ◌∙◌, arith, rules, refl, ◌≢◌, get_or-set_other}
use Rattle.std.proofs.lemmas.List.{get_or-take}
use Rattle.marginals.specs.Words.{framed}
use Rattle.marginals.proofs.Gatherings.{offers, gather_start, gather_more, gather_all}
use Rattle.marginals.proofs.gather.gather.Goals as goal

pub loop-i-init : goal.loop-i-init
loop-i-init g c =
    let es = (g.T.Trellis.meaning c.args.stage.now.trellis.now).edges c.args.stage.now.number in
    record {
      gathered = gather_start (framed g.W.Weights.ops g.T.Trellis.states c.args.frame.now es) es (2 ^ g.T.Trellis.bits c.args.stage.now.trellis.now) c.args.words.now c.requires.clear;
      rest = λ w h. refl;
    }

pub loop-i-preserved : goal.loop-i-preserved
loop-i-preserved g c =
    let o = g.W.Weights.ops in
    let es = (g.T.Trellis.meaning c.args.stage.now.trellis.now).edges c.args.stage.now.number in
    let i = c.loop-i.i in
    let e = c.edge-e.result in
    let at = c.edge-e.ensures.value in
    let cost : get_or (take c.edge_count.result c.costs.new.out) i 0 ≡ e.cost = get_or-take c.edge_count.result c.costs.new.out i 0 (omega arith) ∙ c.costs.ensures.laid i e at in
    let offered = offers o g.T.Trellis.states c.args.frame.now es i e at _ _ _ c.state_count-states.ensures cost c.offer-more.ensures in
    let room : c.from-w.result < length c.loop-i.words = search rules in
    record {
      gathered = gather_more (framed o g.T.Trellis.states c.args.frame.now es) es (2 ^ g.T.Trellis.bits c.args.stage.now.trellis.now) i e c.loop-i.words c.loop-i.invariant.gathered at
          c.from-w.result c.from-w.ensures room _ _ _ offered c.join.ensures;
      rest = λ w h. let low = c.edge-e.ensures.word in let is = c.from-w.ensures in let ne : w ≢ c.from-w.result = omega arith in rw get_or-set_other (c.loop-i.invariant.rest w h);
    }

pub returns-clause-words : goal.returns-clause-words
returns-clause-words g c =
    let es = (g.T.Trellis.meaning c.args.stage.now.trellis.now).edges c.args.stage.now.number in
    gather_all (framed g.W.Weights.ops g.T.Trellis.states c.args.frame.now es) es (2 ^ g.T.Trellis.bits c.args.stage.now.trellis.now) c.loop-i.i c.loop-i.words c.loop-i.invariant.gathered (omega arith)
