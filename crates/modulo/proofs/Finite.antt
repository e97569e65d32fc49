-- The values at finitely many places can be joined.
use Rattle.std.proofs.Common.{◌≡◌, ℕ, zero, suc, ◌<◌, Bool, true, false, not, ◌&&◌, ◌||◌, eqb, sym, refl, ap, ◌∙◌, ⊎_elim, arith}
use Rattle.std.proofs.lemmas.Bool.{cases_Bool, cases_eq, eq-eqb, ne_eqb, eqb-true, both_ways, and_parts, not-true}
use Rattle.paths.specs.Semirings.{Operations}
use Rattle.paths.specs.Joins.{Joins, nothing, single, both}

-- the places that pass, but for place n
abbrev others : (ℕ → Bool) → ℕ → ℕ → Bool
others pass n i = pass i && not (eqb i n)

other_apart : (pass : ℕ → Bool) (n i : ℕ) → others pass n i ≡ true → eqb i n ≡ true → ⊥
other_apart pass n i h = both_ways (eqb i n) (not-true (eqb i n) (and_parts (pass i) (not (eqb i n)) h).1)

-- a place that passes is place n or another
other_or_last : (pass : ℕ → Bool) (n i : ℕ) → pass n ≡ true → pass i ≡ (others pass n i || eqb i n)
other_or_last pass n i here =
    ⊎_elim
    (λ q. let is : pass i ≡ true = ap pass q ∙ here in rw (is, eq-eqb i n q))
    (λ q. rw (ne_eqb i n q) (elim (pass i) as (λ b. b ≡ ((b && true) || false)) [ true ↦ refl | false ↦ refl ]))
    (cases_eq i n)

-- below suc n and not n
lower : (n i : ℕ) → i < suc n → (i ≡ n → ⊥) → i < n
lower n i h apart = ⊎_elim (λ q. absurd (apart q)) (λ q. omega arith) (cases_eq i n)

none_passes : (pass : ℕ → Bool) → ((i : ℕ) → pass i ≡ true → i < 0) → (i : ℕ) → pass i ≡ false
none_passes pass low i = ⊎_elim (λ t. let l = low i t in absurd (omega arith)) (λ t. t) (cases_Bool (pass i))

module _ {W : Type 0} (o : Operations W) (f : ℕ → W) where
  last_joined : (n : ℕ) (pass : ℕ → Bool) → pass n ≡ true → (x : W) → Joins o f (others pass n) x → Joins o f pass (o.join x (f n))
  last_joined n pass here x rest =
      both (others pass n) (λ i. eqb i n) pass x (f n) rest (single (λ i. eqb i n) n (eq-eqb n n refl) (λ j. eqb-true j n)) (other_apart pass n) (λ i. other_or_last pass n i here)

  pub joins_exist : (n : ℕ) (pass : ℕ → Bool) → ((i : ℕ) → pass i ≡ true → i < n) → (x : W) × Joins o f pass x
  joins_exist zero pass low = (o.none, nothing pass (none_passes pass low))
  joins_exist (suc n) pass low =
      let others_low : (i : ℕ) → others pass n i ≡ true → i < n =
      λ i t. lower n i (low i (and_parts (pass i) (not (eqb i n)) t).0) (λ q. other_apart pass n i t (eq-eqb i n q)) in
      let rest = joins_exist n (others pass n) others_low in
      ⊎_elim
      (λ here. (o.join rest.0 (f n), last_joined n pass here rest.0 rest.1))
      (λ none. joins_exist n pass (λ i t. lower n i (low i t) (λ q. both_ways (pass n) none (ap pass (sym q) ∙ t))))
      (cases_Bool (pass n))
