-- What is read from a stage's reliabilities is what the pass promises.
use Rattle.std.proofs.Common.{◌≡◌, ℕ, ◌+◌, ◌*◌, ◌/◌, ◌%◌, ◌<◌, ◌≤◌, Bool, true, false, cond, ◌||◌, eqb, ltb, List, get_or, ℤ, pos, ◌-ℤ◌, Some, None, Option, unwrap_or, refl, ap, ◌∙◌, arith}
use lib.Signed.{lt_z}
use Rattle.std.specs.Option.{option_map}
use Rattle.std.proofs.lemmas.Int.{ints}
use Rattle.paths.specs.Least.{top}
use Rattle.paths.specs.Trellises.{Meaning}
use Rattle.modulo.specs.Modulo.{reliability}
use Rattle.modulo.specs.Priors.{extrinsic}
use Rattle.trellises.specs.declared.outer.Outer.{Outer}
use Rattle.trellises.specs.Outer.{outer}
use Rattle.trellises.specs.OuterLaws.{outer_lawful, outer_reaches}
use Rattle.reliabilities.specs.Bounds.{Bounded}
use Rattle.reliabilities.proofs.Bounds.{wider}
use Rattle.reliabilities.specs.ModuloTells.{connected}
use Rattle.reliabilities.proofs.Stages.{told_bounded}
use Rattle.extrinsics.specs.Extrinsics.{reliability_of, sent_on}
use Rattle.outer_pass.specs.OuterPass.{outer_extrinsic, data_reliability, decision}
use Rattle.outer_pass.specs.Read.{decided_of}

-- above 0 is where one costs less than zero
above : (z o : ℕ) → lt_z (pos 0) (pos z -ℤ pos o) ≡ ltb o z
above z o = grind (arith, ints)

decided_cond : (p q s : Bool) (r : ℤ) → lt_z (pos 0) r ≡ s → decided_of (cond p None (cond q None (Some r))) ≡ cond (p || q) 2 (cond s 1 0)
decided_cond true q s r e = refl
decided_cond false true s r e = refl
decided_cond false false s r e = ap (λ b. cond b 1 0) e

pub decided_is : (z o : ℕ) → decided_of (reliability z o) ≡ cond (eqb z top || eqb o top) 2 (cond (ltb o z) 1 0)
unfolding reliability
decided_is z o = decided_cond (eqb z top) (eqb o top) (ltb o z) (pos z -ℤ pos o) (above z o)

-- a bit of one stage is that of the same stage of the same trellis
pub of_same : (m t : Meaning) (i k b : ℕ) (r : Option ℤ) → r ≡ reliability_of 4 m i b → m ≡ t → i ≡ k → r ≡ reliability_of 4 t k b
of_same m t i k b r is e same = is ∙ ap (λ w. reliability_of 4 w i b) e ∙ ap (λ k. reliability_of 4 t k b) same

-- what the same trellis means
pub same_meaning : (t u : Outer) → t ≡ u → outer t.n t.priors.now ≡ outer u.n u.priors.now
same_meaning t u e = ap (λ (t : Outer). outer t.n t.priors.now) e

module _ (n : ℕ) (priors : List ℤ) (k : ℕ) (r : Option ℤ) where
  pub decision_is : (x : ℕ) → r ≡ reliability_of 4 (outer n priors) k 2 → x ≡ decided_of r → x ≡ decision n priors k
  decision_is x is e = e ∙ ap decided_of is ∙ decided_is _ _

  pub found_is : (x : ℤ) → r ≡ reliability_of 4 (outer n priors) k 2 → x ≡ unwrap_or r (pos 0) → x ≡ data_reliability n priors k
  found_is x is e = e ∙ ap (λ s. unwrap_or s (pos 0)) is

  pub small : (4 ≤ n) × (n ≤ 16384) → k < n → r ≡ reliability_of 4 (outer n priors) k 2 → Bounded 32767 r
  small sizes here is =
      let law = outer_lawful n priors (omega arith, omega arith) in
      wider 5110 32767 (omega arith) r (told_bounded (outer n priors) (connected (outer n priors) law (outer_reaches n priors) (omega arith) (omega arith)) k 2 here r is)

  pub sent_is : (b : ℕ) → b < 2 → (i : ℕ) → i ≡ 2 * k + b → (x p : ℤ) → p ≡ get_or priors i (pos 0) → r ≡ reliability_of 4 (outer n priors) k b
      → x ≡ unwrap_or (option_map (λ s. extrinsic s p) r) (pos 0) → x ≡ outer_extrinsic n priors i
  sent_is b low i at x p told is e =
      let d : k ≡ i / 2 = omega arith in
      let m : b ≡ i % 2 = omega arith in
      e ∙ ap (λ s. unwrap_or (option_map (λ t. extrinsic t p) s) (pos 0)) is
      ∙ ap (λ q. unwrap_or (sent_on 4 (outer n priors) k b q) (pos 0)) told
      ∙ ap (λ j. unwrap_or (sent_on 4 (outer n priors) j b (get_or priors i (pos 0))) (pos 0)) d
      ∙ ap (λ j. unwrap_or (sent_on 4 (outer n priors) (i / 2) j (get_or priors i (pos 0))) (pos 0)) m
