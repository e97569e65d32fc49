-- What stands where in the outer trellis.
use Rattle.std.proofs.Common.{◌≡◌, ℕ, ◌<◌, ◌≤◌, List, get_or, ℤ, Some, None, sym, ap, ◌∙◌, ⊎_elim, arith}
use Rattle.std.proofs.lemmas.Bool.{cases_lt, lt-ltb}
use Rattle.paths.specs.declared.edges.Edge.{Edge}
use Rattle.paths.specs.Trellises.{edge_at}
use Rattle.trellises.specs.Counts.{nth_counted, nth_counted_past}
use Rattle.trellises.specs.Outer.{outer, outer_at}

-- a stage's costs, laid one by one
pub outer_laid : (n : ℕ) (priors : List ℤ) (k : ℕ) (ys : List ℕ) → k < n → ((v : ℕ) → v < 8 → get_or ys v 0 ≡ (outer_at priors k v).cost)
    → (i : ℕ) (e : Edge) → edge_at (outer n priors) k i ≡ Some e → get_or ys i 0 ≡ e.cost
outer_laid n priors k ys h all i e q =
    ⊎_elim
    (λ (b : i < 8).
    let here : edge_at (outer n priors) k i ≡ Some (outer_at priors k i) = rw (lt-ltb k n h) (nth_counted (outer_at priors k) 8 i b) in
    let is : Some (outer_at priors k i) ≡ Some e = sym here ∙ q in
    let same : outer_at priors k i ≡ e = cc in
    all i b ∙ ap (λ e. e.cost) same)
    (λ (b : 8 ≤ i).
    let none : edge_at (outer n priors) k i ≡ None = rw (lt-ltb k n h) (nth_counted_past (outer_at priors k) 8 i b) in
    let z : ◌≡◌ {A = ℕ} 0 1 = cc in
    absurd (omega arith))
    (cases_lt i 8)
