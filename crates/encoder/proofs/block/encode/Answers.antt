use Rattle.std.proofs.Common.{◌≡◌, ℕ, ◌*◌, ◌≤◌, List, ◌++◌, length, drop, None, sym, refl, ap, ◌∙◌, subst, arith, length-append}
use Rattle.std.proofs.lemmas.List.FromFn.{length-map-range_with_len}
use Rattle.std.proofs.lemmas.List.{take_at, drop_at}
use Rattle.std.proofs.lemmas.Bool.{eq-eqb, le-leb}
use Rattle.plans.specs.declared.values.PlanValues.{PlanValues}
use Rattle.plans.specs.Plans.{coded, symbols, interleaver, plan_refusal}
use Rattle.plans.specs.Permutations.{Permutation}
use Rattle.plans.proofs.Answering.{accepted, permutation}
use Rattle.encoder.specs.Encoding.{data_bits, slot, encoded, encode_refusal}
use Rattle.encoder.specs.Promises.{Encoded, AllBytes}
use Rattle.encoder.proofs.Inverting.{only_payload}
use Rattle.encoder.proofs.block.encode.Goals as goal

served : (v : PlanValues) (len room : ℕ) → plan_refusal v ≡ None → len ≡ v.bytes → symbols v ≤ room → encode_refusal v len room ≡ None
unfolding encode_refusal
served v len room h l r = rw (h, eq-eqb len v.bytes l, le-leb (symbols v) room r) refl

wrote : (v w : PlanValues) (payload was is : List ℕ) (n : ℕ) → w ≡ v → plan_refusal v ≡ None → Permutation (coded w) (interleaver w) → 2 ≤ w.bits → n ≡ symbols w → n * w.bits ≡ coded w → length payload ≡ w.bytes → n ≤ length was → AllBytes payload → is ≡ encoded w payload → Encoded v payload n was (is ++ drop n was)
unfolding encoded
wrote v w payload was is n e h perm two en whole len room bytes laid =
    let P : PlanValues → Type 0 = λ x. Encoded x payload n was (is ++ drop n was) in
    let long : length is ≡ n = ap length laid ∙ length-map-range_with_len (slot w (data_bits payload)) 0 (symbols w) ∙ sym en in
    subst P e (record {
      asked = served w (length payload) (length was) (ap plan_refusal e ∙ h) len (omega arith);
      count = en;
      room = simp length-append (omega arith);
      front = take_at is (drop n was) n long ∙ laid;
      tail = drop_at is (drop n was) n long;
      only = only_payload w payload (omega arith) (ap (λ k. k * w.bits) (sym en) ∙ whole) perm bytes len;
    })

pub returns : goal.returns
returns c =
    let a = c.in_ok-plan.ensures.cases in
    let plan = c.in_ok-plan.plan in
    let ok = accepted plan.values plan.accepted in
    record {
      cases = wrote c.args.values plan.values c.args.payload.now c.args.out.now c.lay.new.out c.symbols-n.result
          a.0 a.1 (permutation plan.values ok.2) ok.1.low c.symbols-n.ensures.value c.symbols-n.ensures.whole
          (c.if-payload-bytes.false ∙ c.bytes.ensures.value) c.if-out-n.false (λ k. let t = c.type_inv.payload k in omega arith)
          (c.lay.ensures.slots ∙ ap (encoded plan.values) c.new-payload.ensures.value);
    }
