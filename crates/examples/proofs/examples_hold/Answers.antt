-- Each example is computed.
use Rattle.std.proofs.Common.{refl}
use Rattle.plans.specs.Divisors.{coprime}
use Rattle.plans.specs.Plans.{plan_refusal}
use Rattle.polynomial.specs.Polynomials.{remainder}
use Rattle.polynomial.specs.Bytes.{check_of}
use Rattle.encoder.specs.Encoding.{data_bits, coded_bit, slot, encoded}
use Rattle.paths.specs.Paths.{walks, weight, join_over}
use Rattle.modulo.specs.Modulo.{reliability}
use Rattle.modulo.specs.Priors.{extrinsic}
use Rattle.examples.specs.Examples.{WorkedExamples}
use Rattle.examples.proofs.examples_hold.Goals as goal

computed : WorkedExamples
unfolding plan_refusal coprime check_of remainder encoded slot coded_bit data_bits walks weight join_over reliability extrinsic
computed = record {
  large_stages = refl;
  large_coded = refl;
  large_symbols = refl;
  large_slots = refl;
  large_accepted = refl;
  interleaved_1 = refl;
  interleaved_15101 = refl;
  interleaved_439 = refl;
  factor_refused = refl;
  no_payload_refused = refl;
  long_payload_refused = refl;
  bits_refused = refl;
  small_accepted = refl;
  check_of_one = refl;
  slots_of_one = refl;
  first_bit = refl;
  second_bit = refl;
  third_bit = refl;
  fourth_bit = refl;
  held_at_511 = refl;
}

pub returns : goal.returns
returns c = record { examples = computed }
