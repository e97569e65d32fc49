-- What is written where there is no block.
use Rattle.std.specs.Prelude.{ℕ, List, ◌++◌, codes}
use Rattle.plans.specs.Texts.{refusal_text}
use Rattle.encode_costs.specs.declared.block.Trouble.{Trouble}
use Rattle.encode_costs.specs.declared.block.Trouble.TheVariants.{Refused, Memory}

abbrev pub trouble_text : Trouble → List ℕ
trouble_text (Refused refusal) = codes "refused " ++ refusal_text refusal
trouble_text Memory = codes "no memory"
