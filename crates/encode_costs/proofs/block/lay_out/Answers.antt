use Rattle.std.proofs.Common.{◌≡◌, ℕ, List, take, IfOk, Some, Ok, Err, Result, ap, ◌∙◌, subst}
use Rattle.plans.specs.declared.refusals.Refusal.{Refusal}
use Rattle.encoder.specs.Clean.{clean_rows}
use Rattle.cost_file.specs.Files.{Kept}
use Rattle.cost_file.specs.Promises.{Writes, ReadsBack}
use Rattle.encode_costs.proofs.block.lay_out.Goals as goal

read_back : (c d : Kept) (was is : List ℕ) (r : Result ℕ Refusal) → c ≡ d → Writes c was is r → IfOk r (λ n. ReadsBack d (take n is))
read_back c d was is (Ok n) e h = subst (λ x. ReadsBack x (take n is)) e h.reads
read_back c d was is (Err refusal) e h = tt

-- the slots are those of the payload, and the rows those of the slots
pub returns : goal.returns
returns c =
    let v = c.args.values in
    let e = c.in_ok-costs.ensures.cases.front ∙ ap (λ sent. clean_rows v sent c.args.cost) c.in_ok-symbols.ensures.cases.front in
    record { laid = read_back _ _ _ _ c.write.result (ap (λ (xs : List ℕ). record { plan = v; rows = xs; payload = Some c.args.payload.now }) e) c.write.ensures.cases }
