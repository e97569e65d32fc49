-- The test of coprimality, and what a greatest common divisor tells of it.
use Rattle.std.proofs.Common.{◌≡◌, ℕ, zero, suc, ◌%◌, ◌<◌, ◌≤◌, Bool, true, false, not, ◌||◌, eqb, sym, refl, ◌∙◌, subst, ⊎_elim, arith}
use Prim.Native.Nat.{◌∣◌}
use native.Mathlib.Nat.{eq-zero_of_zero-dvd, le_of_dvd, dvd_of_mod-eq-zero, mod-eq-zero_of_dvd, eq-one_of_dvd-one}
use Rattle.std.proofs.lemmas.Bool.{eqb-true, eq-eqb, ne_eqb, cases_eq, and_parts, and_from, or_cases, or_left, or_right, not-true, not_from_false, both_ways}
use Rattle.plans.specs.Divisors.{Coprime, GreatestCommon, common, none_common, coprime}

unlike : (t : Bool) → (t ≡ true → ⊥) → t ≡ false
unlike true n = absurd (n refl)
unlike false n = refl

common_divides : (a b k : ℕ) → common a b k ≡ true → (k ∣ a) × (k ∣ b)
common_divides a b k h =
    let e = and_parts (eqb (a % k) 0) (eqb (b % k) 0) h in
    (dvd_of_mod-eq-zero k (eqb-true (a % k) 0 e.0), dvd_of_mod-eq-zero k (eqb-true (b % k) 0 e.1))

divides_common : (a b k : ℕ) → k ∣ a → k ∣ b → common a b k ≡ true
divides_common a b k p q = and_from _ _ (eq-eqb (a % k) 0 (mod-eq-zero_of_dvd k p)) (eq-eqb (b % k) 0 (mod-eq-zero_of_dvd k q))

none_means : (a b k : ℕ) → none_common a b k ≡ true → (d : ℕ) → 2 ≤ d → d ≤ k → d ∣ a → d ∣ b → ⊥
none_means a b zero h d low high p q = omega arith
none_means a b (suc k) h d low high p q =
    let e = and_parts (eqb k 0 || not (common a b (suc k))) (none_common a b k) h in
    ⊎_elim
    (λ same.
    ⊎_elim
    (λ z. let o = eqb-true k 0 z in omega arith)
    (λ n. both_ways (common a b (suc k)) (not-true _ n) (subst (λ t. common a b t ≡ true) same (divides_common a b d p q)))
    (or_cases (eqb k 0) (not (common a b (suc k))) e.0))
    (λ other. none_means a b k e.1 d low (omega arith) p q)
    (cases_eq d (suc k))

means_none : (a b k : ℕ) → Coprime a b → none_common a b k ≡ true
means_none a b zero h = refl
means_none a b (suc k) h =
    and_from _ _
    (⊎_elim
    (λ z. or_left (eqb k 0) _ (eq-eqb k 0 z))
    (λ n. or_right (eqb k 0) (not (common a b (suc k))) (not_from_false _ (unlike (common a b (suc k)) (λ t. let d = common_divides a b (suc k) t in let o = h (suc k) d.0 d.1 in n (omega arith)))))
    (cases_eq k 0))
    (means_none a b k h)

pub coprime_means : (a b : ℕ) → 0 < b → coprime a b ≡ true → Coprime a b
unfolding coprime
coprime_means a b some h zero p q = absurd (let z : b ≡ 0 = eq-zero_of_zero-dvd q in omega arith)
coprime_means a b some h (suc zero) p q = refl
coprime_means a b some h (suc (suc d)) p q = absurd (none_means a b b h (suc (suc d)) (omega arith) (le_of_dvd some q) p q)

pub means_coprime : (a b : ℕ) → Coprime a b → coprime a b ≡ true
unfolding coprime
means_coprime a b h = means_none a b b h

-- the greatest common divisor is 1 exactly where the test passes
pub divisor_tells : (a b g : ℕ) → 0 < b → GreatestCommon a b g → eqb g 1 ≡ coprime a b
divisor_tells a b g some h =
    ⊎_elim
    (λ one. eq-eqb g 1 one ∙ sym (means_coprime a b (λ d p q. eq-one_of_dvd-one (subst (λ t. d ∣ t) one (h.most d p q)))))
    (λ more. ne_eqb g 1 more ∙ sym (unlike (coprime a b) (λ t. more (coprime_means a b some t g h.left h.right))))
    (cases_eq g 1)
