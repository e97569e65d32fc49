-- What the file of a block without noise keeps.
use Rattle.std.specs.Prelude.{ℕ, List, Some}
use Rattle.plans.specs.declared.values.PlanValues.{PlanValues}
use Rattle.encoder.specs.Encoding.{encoded}
use Rattle.encoder.specs.Clean.{clean_rows}
use Rattle.cost_file.specs.Files.{Kept}

-- the plan, the costs of the slots that the payload is sent in, and the payload
abbrev pub clean_block : PlanValues → List ℕ → ℕ → Kept
clean_block v payload cost = record { plan = v; rows = clean_rows v (encoded v payload) cost; payload = Some payload }
