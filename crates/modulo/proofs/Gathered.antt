-- The least of the values of a stage's edges that pass a test.
use Rattle.std.proofs.Common.{◌≡◌, ℕ, zero, suc, ◌≤◌, min, Bool, true, false, cond, ◌⊎◌, List, [], ◌∷◌, refl, ◌∙◌, inl, inr, ⊎_elim, arith}
use Rattle.std.proofs.lemmas.Bool.{cases_lt}
use Rattle.paths.specs.declared.edges.Edge.{Edge}
use Rattle.paths.specs.Trellises.{Has}
use Rattle.paths.specs.Columns.{gathered}
use Rattle.paths.specs.Least.{least}

no_more : (a x : ℕ) (b : Bool) → cond b (min a x) a ≤ a
no_more a x true = omega arith
no_more a x false = omega arith

-- one more value, where its edge passes
one_more : (a x : ℕ) (b : Bool) → (cond b (min a x) a ≡ a) ⊎ ((b ≡ true) × (cond b (min a x) a ≡ x))
one_more a x true = ⊎_elim (λ l. inl (omega arith)) (λ l. inr (refl, omega arith)) (cases_lt a x)
one_more a x false = inl refl

module _ (test : Edge → Bool) (v : Edge → ℕ) where
  -- no more than what it starts from
  pub gathered_start : (es : List Edge) (a : ℕ) → gathered least test v a es ≤ a
  unfolding gathered
  gathered_start [] a = omega arith
  gathered_start (e ∷ es) a =
      let h = gathered_start es (cond (test e) (min a (v e)) a) in
      let l = no_more a (v e) (test e) in
      omega arith

  -- no more than any of the values
  pub gathered_low : (es : List Edge) (a : ℕ) (e : Edge) → Has es e → test e ≡ true → gathered least test v a es ≤ v e
  unfolding gathered
  gathered_low [] a e (i, q) t = let z : ◌≡◌ {A = ℕ} 0 1 = cc in absurd (omega arith)
  gathered_low (d ∷ es) a e (zero, q) t =
      let same : d ≡ e = cc in
      let l : cond (test d) (min a (v d)) a ≡ min a (v e) = rw (same, t) in
      let h = gathered_start es (cond (test d) (min a (v d)) a) in
      omega arith
  gathered_low (d ∷ es) a e (suc i, q) t = gathered_low es (cond (test d) (min a (v d)) a) e (i, q) t

  -- what it starts from, or one of the values
  pub gathered_one : (es : List Edge) (a : ℕ)
      → (gathered least test v a es ≡ a) ⊎ ((e : Edge) × (Has es e) × (test e ≡ true) × (gathered least test v a es ≡ v e))
  unfolding gathered
  gathered_one [] a = inl refl
  gathered_one (d ∷ es) a =
      ⊎_elim
      (λ q. ⊎_elim (λ l. inl (q ∙ l)) (λ l. inr (d, (0, refl), l.0, q ∙ l.1)) (one_more a (v d) (test d)))
      (λ h. inr (h.0, (suc h.1.0, h.1.1), h.2, h.3))
      (gathered_one es (cond (test d) (min a (v d)) a))
