-- The first edges are gathered by their words.
use Rattle.std.proofs.Common.{◌≡◌, ℕ, ◌^◌, ◌≤◌, get_or}
use Rattle.marginals.specs.Words.{framed}
use Rattle.marginals.proofs.Gatherings.{Gathered}
use Rattle.marginals.proofs.gather.gather.Given as goal

abbrev pub invariant-loop-i : goal.invariant-loop-i
invariant-loop-i g l =
    let es = (g.T.Trellis.meaning l.stage.trellis.now).edges l.stage.number in
    record {
      gathered : Gathered g.W.Weights.ops (framed g.W.Weights.ops g.T.Trellis.states l.frame es) es (2 ^ g.T.Trellis.bits l.stage.trellis.now) l.i l.words;
      rest : (w : ℕ) → 2 ^ g.T.Trellis.bits l.stage.trellis.now ≤ w → get_or l.words w g.W.Weights.ops.none ≡ get_or l.fn.words w g.W.Weights.ops.none;
    }
