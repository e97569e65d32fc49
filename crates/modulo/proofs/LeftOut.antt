-- The penalties of a prior differ by the prior, so taking it off again leaves nothing of it.
use Rattle.std.proofs.Common.{◌≡◌, ℕ, ℤ, pos, negsuc, ◌-ℤ◌, sym, ap, ◌∙◌, arith}
use Rattle.std.specs.Int.{int_min, int_max}
use Rattle.std.proofs.lemmas.Int.{ints}
use Rattle.modulo.specs.Priors.{extrinsic, reliability_under, PriorLeftOut}

taken_off : (z o : ℕ) (prior : ℤ) → (reliability_under z o prior -ℤ prior) ≡ (pos z -ℤ pos o)
taken_off z o (pos n) = omega (arith, ints)
taken_off z o (negsuc n) = omega (arith, ints)

pub prior_left_out : PriorLeftOut
unfolding extrinsic
prior_left_out z o prior other = ap (λ d. int_max (negsuc 510) (int_min d (pos 511))) (taken_off z o prior ∙ sym (taken_off z o other))
