-- The joins between the two columns tell each bit.
use Rattle.std.proofs.Common.{◌≡◌, ℕ, ◌+◌, ◌-◌, ◌*◌, ◌<◌, ◌≤◌, ◌++◌, length, get_or, take, drop, None, sym, ap, ◌∙◌, subst, length-take, mul-le-mul_right, arith}
use Rattle.std.proofs.lemmas.List.{get_or_default, get_or-take, get_or-drop, get_or_append_left, get_or-append_right}
use Rattle.marginals.specs.declared.room.ByBit.{ByBit}
use Rattle.marginals.specs.Words.{entry_of, neither}
use Rattle.reliabilities.specs.ModuloTells.{connected}
use Rattle.reliabilities.proofs.Bounds.{wider}
use Rattle.reliabilities.proofs.Stages.{TrueBits, told_bounded}
use Rattle.reliabilities.proofs.bits.stage_bits.Goals as goal

pub tell-requires-clause-can : goal.tell-requires-clause-can
tell-requires-clause-can g c b low =
    let s = c.args.stage.now in
    let t = s.trellis.now in
    let o = g.W.Weights.ops in
    let is = c.bits-bits.ensures in
    let e = c.find.ensures in
    let f = λ (x : ℕ) (h : x < g.T.Trellis.states). get_or_default c.args.front.now x o.none 0 (omega arith) ∙ c.requires.forth x h in
    let k = λ (x : ℕ) (h : x < g.T.Trellis.states). get_or_default c.args.back.now x o.none 0 (omega arith) ∙ c.requires.onward x h in
    let few = (g.T.Trellis.lawful t).few_bits in
    let within : b < c.bits-bits.result = omega (arith, length-take c.bits-bits.result c.find.new.room.bits) in
    let at = get_or-take c.bits-bits.result c.find.new.room.bits b (neither o) within in
    subst (λ (y : ByBit ℕ). g.W.CostKeeping.CanTell y.zero y.one) (sym at)
    (g.met.W.CostKeeping.tells _ _ _ _ (g.T.Trellis.meaning t) (g.T.Trellis.lawful t) (g.T.Trellis.reaches t) c.requires.served s.number s.inside
    (entry_of o c.args.front.now) (entry_of o c.args.back.now) f k b _ _ (e.zero b (omega arith)) (e.one b (omega arith))).0

pub returns : goal.returns
returns g c =
    let s = c.args.stage.now in
    let t = s.trellis.now in
    let m = g.T.Trellis.meaning t in
    let law = g.T.Trellis.lawful t in
    let o = g.W.Weights.ops in
    let is = c.bits-bits.ensures in
    let e = c.find.ensures in
    let f = λ (x : ℕ) (h : x < g.T.Trellis.states). get_or_default c.args.front.now x o.none 0 (omega arith) ∙ c.requires.forth x h in
    let k = λ (x : ℕ) (h : x < g.T.Trellis.states). get_or_default c.args.back.now x o.none 0 (omega arith) ∙ c.requires.onward x h in
    let n = c.bits-bits.result in
    let few = law.few_bits in
    let long : length (take n c.args.out.now) ≡ n = omega (arith, length-take n c.args.out.now) in
    let told : TrueBits g.T.Trellis.states m s.number (g.T.Trellis.bits t) (c.tell.new.out ++ drop n c.args.out.now) = λ b low.
    let at = get_or-take n c.find.new.room.bits b (neither o) (omega arith) in
    get_or_append_left c.tell.new.out (drop n c.args.out.now) None b (omega arith)
    ∙ c.tell.ensures b (omega arith)
    ∙ ap (λ (y : ByBit ℕ). g.W.CostKeeping.told y.zero y.one) at
    ∙ (g.met.W.CostKeeping.tells _ _ _ _ m law (g.T.Trellis.reaches t) c.requires.served s.number s.inside
    (entry_of o c.args.front.now) (entry_of o c.args.back.now) f k b _ _ (e.zero b low) (e.one b low)).1 in
    record {
      told = told;
      bound = λ some cheap b low. told_bounded m (connected m law (g.T.Trellis.reaches t) some cheap) s.number b s.inside _ (told b low);
      sixteen = λ some modest b low.
          let three : 3 * g.T.Trellis.ceiling ≤ (2 * g.T.Trellis.reach + 1) * g.T.Trellis.ceiling = mul-le-mul_right g.T.Trellis.ceiling (omega arith) in
          wider _ 32767 (omega arith) _ (told_bounded m (connected m law (g.T.Trellis.reaches t) some (omega arith)) s.number b s.inside _ (told b low));
      found = c.find.ensures.found;
      room = c.find.ensures.room;
      rest = λ b past.
          let past_n : n ≤ b = omega arith in
          let front : length c.tell.new.out ≡ n = omega arith in
          let at : n + (b - n) ≡ b = omega arith in
          get_or-append_right c.tell.new.out (drop n c.args.out.now) n b None front past_n ∙ get_or-drop n c.args.out.now (b - n) None ∙ ap (λ i. get_or c.args.out.now i None) at;
    }
