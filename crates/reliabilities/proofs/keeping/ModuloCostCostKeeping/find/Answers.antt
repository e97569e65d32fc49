-- What is joined modulo 65,536 is what is kept of the least costs.
use Rattle.std.proofs.Common.{ℕ, ◌<◌, ◌∙◌, arith, rules}
use Rattle.std.proofs.lemmas.List.{get_or_default}
use Rattle.modulo.specs.Modulo.{modulo}
use Rattle.marginals.specs.Words.{entry_of}
use Rattle.reliabilities.specs.ModuloTells.{served, modulo_joined}
use Rattle.reliabilities.proofs.keeping.ModuloCostCostKeeping.find.Goals as goal

pub returns-clause-found : goal.returns-clause-found
returns-clause-found g c b low =
    let s = c.args.stage.now in
    let t = s.trellis.now in
    let m = g.T.Trellis.meaning t in
    let h = served m (g.T.Trellis.lawful t) (g.T.Trellis.reaches t) c.requires.served.0 c.requires.served.1 in
    let e = c.marginals.ensures in
    let f = λ (x : ℕ) (h : x < g.T.Trellis.states). get_or_default c.args.front.now x 65536 0 (omega arith) ∙ c.requires.forth x h in
    let k = λ (x : ℕ) (h : x < g.T.Trellis.states). get_or_default c.args.back.now x 65536 0 (omega arith) ∙ c.requires.onward x h in
    let joined = modulo_joined m h s.number s.inside (entry_of modulo c.args.front.now) (entry_of modulo c.args.back.now) f k b in
    let z = joined 0 _ (e.zero b low) in
    let o = joined 1 _ (e.one b low) in
    search rules
