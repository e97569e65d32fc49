-- Between columns of least costs, the joins over all paths are those of what the edges offer.
use Rattle.std.proofs.Common.{ℕ, ◌<◌, ◌∙◌, arith, rules}
use Rattle.std.proofs.lemmas.List.{get_or_default}
use Rattle.paths.specs.Least.{least, top}
use Rattle.marginals.specs.Words.{entry_of}
use Rattle.reliabilities.specs.LeastTells.{least_forth, least_back, least_joins}
use Rattle.reliabilities.proofs.keeping.LeastCostCostKeeping.find.Goals as goal

pub bit_joins-requires : goal.bit_joins-requires
bit_joins-requires g c =
    let s = c.args.stage.now in
    let m = g.T.Trellis.meaning s.trellis.now in
    let law = g.T.Trellis.lawful s.trellis.now in
    let front = entry_of least c.args.front.now in
    let back = entry_of least c.args.back.now in
    let f = λ (x : ℕ) (h : x < g.T.Trellis.states). get_or_default c.args.front.now x top 0 (omega arith) ∙ c.requires.forth x h in
    let k = λ (x : ℕ) (h : x < g.T.Trellis.states). get_or_default c.args.back.now x top 0 (omega arith) ∙ c.requires.onward x h in
    (omega arith, (c.requires.columns, (least_forth m law s.number s.inside front back f k, least_back m law s.number s.inside front back f k)))

pub returns : goal.returns
returns g c =
    let s = c.args.stage.now in
    let m = g.T.Trellis.meaning s.trellis.now in
    let law = g.T.Trellis.lawful s.trellis.now in
    let e = c.bit_joins.ensures in
    let f = λ (x : ℕ) (h : x < g.T.Trellis.states). get_or_default c.args.front.now x top 0 (omega arith) ∙ c.requires.forth x h in
    let k = λ (x : ℕ) (h : x < g.T.Trellis.states). get_or_default c.args.back.now x top 0 (omega arith) ∙ c.requires.onward x h in
    let joins = least_joins m law s.number s.inside (entry_of least c.args.front.now) (entry_of least c.args.back.now) f k in
    record {
      zero = λ b low. joins b 0 _ (e.zero b low);
      one = λ b low. joins b 1 _ (e.one b low);
      found = λ b low. let z = e.zero b low in let o = e.one b low in search rules;
      room = e.room;
    }
