-- What the tests of a plan mean, and that an accepted plan's interleaver is a permutation.
use Rattle.std.proofs.Common.{◌≡◌, ℕ, ◌+◌, ◌*◌, ◌%◌, ◌^◌, ◌<◌, Bool, true, false, ◌&&◌, eqb, ltb, leb, None, refl, subst, mod-lt, arith}
use native.Mathlib.Nat.{dvd_of_mod-eq-zero, mod-eq-zero_of_dvd}
use Rattle.std.proofs.lemmas.Bool.{leb-true, le-leb, ltb-true, lt-ltb, eqb-true, eq-eqb, and_parts, and_from, both_ways}
use Rattle.plans.specs.declared.values.PlanValues.{PlanValues}
use Rattle.plans.specs.Divisors.{coprime}
use Rattle.plans.specs.Permutations.{Permutation}
use Rattle.plans.specs.Plans.{coded, interleaver, Sized, Grouped, Permuting, sized, grouped, permuting, plan_refusal, Answered}
use Rattle.plans.proofs.Coprimes.{coprime_means, means_coprime}
use Rattle.plans.proofs.Cancels.{one_to_one}
use Rattle.plans.proofs.Pigeons.{covers}

sized_means : (v : PlanValues) → sized v ≡ true → Sized v
sized_means v h =
    let e = and_parts (leb 1 v.bytes) (leb v.bytes 1021) h in
    record { low = leb-true 1 v.bytes e.0; high = leb-true v.bytes 1021 e.1 }

means_sized : (v : PlanValues) → Sized v → sized v ≡ true
means_sized v h = and_from _ _ (le-leb 1 v.bytes h.low) (le-leb v.bytes 1021 h.high)

grouped_means : (v : PlanValues) → grouped v ≡ true → Grouped v
grouped_means v h =
    let e = and_parts (leb 2 v.bits && leb v.bits 8) (eqb (coded v % v.bits) 0) h in
    let f = and_parts (leb 2 v.bits) (leb v.bits 8) e.0 in
    record { low = leb-true 2 v.bits f.0; high = leb-true v.bits 8 f.1; even = dvd_of_mod-eq-zero v.bits (eqb-true (coded v % v.bits) 0 e.1) }

means_grouped : (v : PlanValues) → Grouped v → grouped v ≡ true
means_grouped v h =
    and_from _ _ (and_from _ _ (le-leb 2 v.bits h.low) (le-leb v.bits 8 h.high)) (eq-eqb (coded v % v.bits) 0 (mod-eq-zero_of_dvd v.bits h.even))

permuting_means : (v : PlanValues) → permuting v ≡ true → Permuting v
permuting_means v h =
    let e4 = and_parts (leb 1 v.a && ltb v.a (coded v) && ltb v.b (coded v) && coprime v.a (coded v)) (eqb (v.b ^ 16 % coded v) 0) h in
    let e3 = and_parts (leb 1 v.a && ltb v.a (coded v) && ltb v.b (coded v)) (coprime v.a (coded v)) e4.0 in
    let e2 = and_parts (leb 1 v.a && ltb v.a (coded v)) (ltb v.b (coded v)) e3.0 in
    let e1 = and_parts (leb 1 v.a) (ltb v.a (coded v)) e2.0 in
    record {
      a_low = leb-true 1 v.a e1.0;
      a_high = ltb-true v.a (coded v) e1.1;
      b_high = ltb-true v.b (coded v) e2.1;
      apart = coprime_means v.a (coded v) (omega arith) e3.1;
      vanishes = dvd_of_mod-eq-zero (coded v) (eqb-true (v.b ^ 16 % coded v) 0 e4.1);
    }

means_permuting : (v : PlanValues) → Permuting v → permuting v ≡ true
means_permuting v h =
    and_from _ _
    (and_from _ _
    (and_from _ _ (and_from _ _ (le-leb 1 v.a h.a_low) (lt-ltb v.a (coded v) h.a_high)) (lt-ltb v.b (coded v) h.b_high))
    (means_coprime v.a (coded v) h.apart))
    (eq-eqb (v.b ^ 16 % coded v) 0 (mod-eq-zero_of_dvd (coded v) h.vanishes))

by_tests : (v : PlanValues) (s g p : Bool) → sized v ≡ s → grouped v ≡ g → permuting v ≡ p → Answered v (plan_refusal v)
unfolding plan_refusal
by_tests v true true true es eg ep = rw (es, eg, ep) (sized_means v es, grouped_means v eg, permuting_means v ep)
by_tests v true true false es eg ep = rw (es, eg, ep) (sized_means v es, grouped_means v eg, λ h. both_ways (permuting v) ep (means_permuting v h))
by_tests v true false p es eg ep = rw (es, eg) (sized_means v es, λ h. both_ways (grouped v) eg (means_grouped v h))
by_tests v false g p es eg ep = rw es (λ h. both_ways (sized v) es (means_sized v h))

-- the answer to a plan's questions means what it says
pub answered : (v : PlanValues) → Answered v (plan_refusal v)
answered v = by_tests v (sized v) (grouped v) (permuting v) refl refl refl

-- what the invariant of an accepted plan gives
pub accepted : (v : PlanValues) → plan_refusal v ≡ None → Sized v × Grouped v × Permuting v
accepted v h = subst (Answered v) h (answered v)

pub permutation : (v : PlanValues) → Permuting v → Permutation (coded v) (interleaver v)
permutation v h =
    let inside : (j : ℕ) → j < coded v → interleaver v j < coded v = λ j l. mod-lt (v.a * j + v.b * j * j) (omega arith) in
    let apart = one_to_one (coded v) v.a v.b h.apart h.vanishes in
    record { inside = inside; one_to_one = apart; onto = λ i l. covers (coded v) (interleaver v) inside apart i l }
