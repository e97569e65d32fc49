-- The writer's answers: each refusal, and what it promises of a file that it wrote.
use Rattle.std.proofs.Common.{◌≡◌, ℕ, ◌≤◌, true, List, length, take, drop, None, sym, refl, ap, ◌∙◌, subst, arith}
use Rattle.std.proofs.lemmas.Bool.{le-leb}
use Rattle.plans.specs.Plans.{plan_refusal}
use Rattle.cost_file.specs.Files.{Kept, written, lengths_fit, write_refusal}
use Rattle.cost_file.specs.Promises.{ReadsBack, Laid, Wrote}
use Rattle.cost_file.proofs.Written.{reads_back}

not_refused : (c : Kept) (room : ℕ) → plan_refusal c.plan ≡ None → lengths_fit c ≡ true → length (written c) ≤ room → write_refusal c room ≡ None
unfolding write_refusal
not_refused c room h l s = rw (h, write_refusal, l, le-leb (length (written c)) room s) refl

pub wrote : (c : Kept) (n : ℕ) (was is : List ℕ) → plan_refusal c.plan ≡ None → lengths_fit c ≡ true → n ≡ length (written c) → length (written c) ≤ length was → length is ≡ length was → Laid c was is → Wrote c n was is
wrote c n was is h l e room same laid =
    let front : take n is ≡ written c = ap (λ k. take k is) e ∙ laid.front in
    record {
      asked = not_refused c (length was) h l room;
      count = e;
      room = omega arith;
      front = front;
      tail = ap (λ k. drop k is) e ∙ laid.tail ∙ ap (λ k. drop k was) (sym e);
      reads = subst (ReadsBack c) (sym front) (reads_back c (record { plan = h; lengths = l }));
    }
