use Rattle.std.proofs.Common.{◌≡◌, ◌-◌, ◌<◌, eqb, [], ◌∷◌, ◌++◌, take, get_or, get_or-take, length-take, sym, refl, ap, ◌∙◌, arith}
use Rattle.plans.specs.Plans.{stages}
use Rattle.polynomial.specs.Polynomials.{value, remainder}
use Rattle.run_model.specs.Model.{decided_bits, decided_remainder}
use Rattle.run_tables.proofs.Decided.{bits_more}
use Rattle.run_tables.proofs.bits.remainder_of.Goals as goal

pub loop-bit-init : goal.loop-bit-init
unfolding remainder
loop-bit-init c = record { read = refl; low = omega arith }

pub loop-bit-preserved : goal.loop-bit-preserved
loop-bit-preserved c =
    let d = c.args.d.now in
    let k = c.loop-bit.bit-index in
    let n = c.stages.result - 2 in
    let h : k < n = omega (arith, length-take n d) in
    let same : get_or (take n d) k 0 ≡ get_or d k 0 = rw get_or-take refl in
    record {
      read = c.with_coefficient-r.ensures.value _ c.loop-bit.invariant.read ∙ ap (λ x. value (remainder (decided_bits k d ++ eqb x 1 ∷ []))) same ∙ ap (λ b. value (remainder b)) (sym (bits_more d k));
      low = c.with_coefficient-r.ensures.bound;
    }

pub returns : goal.returns
unfolding decided_remainder
returns c =
    let e : c.loop-bit.bit-index ≡ stages c.args.plan.values - 2 = omega (arith, length-take (c.stages.result - 2) c.args.d.now, c.stages.ensures.value) in
    record { value = c.loop-bit.invariant.read ∙ ap (λ n. value (remainder (decided_bits n c.args.d.now))) e }
