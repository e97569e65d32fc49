use Rattle.std.proofs.Common.{◌≡◌, ℤ, pos, negsuc, ◌-ℤ◌, ◌≤ℤ◌, ap, ◌∙◌, arith, w16, w64, to_z, of_z}
use Rattle.std.specs.Int.{int_min, int_max}
use Rattle.std.proofs.lemmas.Int.{ints}
use Rattle.modulo.specs.Priors.{extrinsic}
use Rattle.modulo.proofs.reliabilities.sent_on.Goals as goal

held : (r d reliability prior : ℤ) → r ≡ int_max (negsuc 510) (int_min d (pos 511)) → d ≡ reliability -ℤ prior → r ≡ extrinsic reliability prior
unfolding extrinsic
held r d reliability prior is less = is ∙ ap (λ d. int_max (negsuc 510) (int_min d (pos 511))) less

pub returns : goal.returns
returns c =
    let low : negsuc 510 ≤ℤ c.clamp.result = omega (arith, ints, c.clamp.ensures.lower_bound) in
    let high : c.clamp.result ≤ℤ pos 511 = omega (arith, ints, c.clamp.ensures.upper_bound) in
    let cast : to_z w16 (of_z w16 (to_z w64 (of_z w64 c.clamp.result))) ≡ c.clamp.result = omega (arith, ints) in
    let news : ℤ = to_z w64 (of_z w64 (to_z w64 (of_z w64 c.from.result) -ℤ to_z w64 (of_z w64 c.from-2.result))) in
    cast ∙ held c.clamp.result news c.args.reliability c.args.prior c.clamp.ensures.value (omega (arith, ints))
