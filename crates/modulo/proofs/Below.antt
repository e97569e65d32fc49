-- The least of the values at the numbers below a bound.
use Rattle.std.proofs.Common.{◌≡◌, ℕ, zero, suc, ◌<◌, ◌≤◌, ap, ⊎_elim, arith}
use Rattle.std.proofs.lemmas.Bool.{cases_eq, cases_lt}
use Rattle.paths.specs.Columns.{join_below}
use Rattle.paths.specs.Least.{least, top}

-- no more than the top
pub below_held : (n : ℕ) (f : ℕ → ℕ) → join_below least n f ≤ top
unfolding join_below
below_held zero f = omega arith
below_held (suc n) f = let h = below_held n f in omega arith

-- no more than any of the values
pub below_low : (n : ℕ) (f : ℕ → ℕ) (s : ℕ) → s < n → join_below least n f ≤ f s
unfolding join_below
below_low zero f s h = absurd (omega arith)
below_low (suc n) f s h =
    ⊎_elim
    (λ q. let e : f s ≡ f n = ap f q in omega arith)
    (λ q. let l = below_low n f s (omega arith) in omega arith)
    (cases_eq s n)

-- below the top it is one of the values
pub below_one : (n : ℕ) (f : ℕ → ℕ) → join_below least n f < top → (s : ℕ) × (s < n) × (join_below least n f ≡ f s)
unfolding join_below
below_one zero f h = absurd (omega arith)
below_one (suc n) f h =
    ⊎_elim
    (λ l. let b = below_one n f (omega arith) in let e = b.2 in (b.0, omega arith, omega arith))
    (λ l. (n, omega arith, omega arith))
    (cases_lt (join_below least n f) (f n))
