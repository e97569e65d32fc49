-- One to one on a finite range is onto.
use Rattle.std.proofs.Common.{◌≡◌, ℕ, zero, suc, ◌-◌, ◌<◌, ◌≤◌, cond, ltb, ◌⊎◌, sym, ap, ◌∙◌, inl, inr, ⊎_elim, arith}
use Rattle.std.proofs.lemmas.Bool.{cases_lt, cases_eq, lt-ltb, le-ltb}

-- the numbers other than p, with no gap
abbrev squeezed : ℕ → ℕ → ℕ
squeezed p x = cond (ltb p x) (x - 1) x

squeezed_case : (p x : ℕ) → (x ≡ p → ⊥) → ((x < p) × (squeezed p x ≡ x)) ⊎ ((p < x) × (squeezed p x ≡ x - 1))
squeezed_case p x h =
    ⊎_elim
    (λ l. inr (l, ap (λ b. cond b (x - 1) x) (lt-ltb p x l)))
    (λ l. inl (omega arith, ap (λ b. cond b (x - 1) x) (le-ltb p x l)))
    (cases_lt p x)

squeezed_low : (p x m : ℕ) → (x ≡ p → ⊥) → x < suc m → p < suc m → squeezed p x < m
squeezed_low p x m h low small = let k = squeezed_case p x h in omega arith

squeezed_apart : (p x y : ℕ) → (x ≡ p → ⊥) → (y ≡ p → ⊥) → squeezed p x ≡ squeezed p y → x ≡ y
squeezed_apart p x y h k e = let a = squeezed_case p x h in let b = squeezed_case p y k in omega arith

-- n different numbers below m are at most m
fits : (n m : ℕ) (f : ℕ → ℕ) → ((i : ℕ) → i < n → f i < m) → ((i j : ℕ) → i < n → j < n → f i ≡ f j → i ≡ j) → n ≤ m
fits zero m f low apart = omega arith
fits (suc n) zero f low apart = absurd (let h = low 0 (omega arith) in omega arith)
fits (suc n) (suc m) f low apart =
    let p = f n in
    let other : (i : ℕ) → i < n → f i ≡ p → ⊥ = λ i l e. let q = apart i n (omega arith) (omega arith) e in omega arith in
    let k : n ≤ m =
    fits n m (λ i. squeezed p (f i))
    (λ i l. squeezed_low p (f i) m (other i l) (low i (omega arith)) (low n (omega arith)))
    (λ i j l r e. apart i j (omega arith) (omega arith) (squeezed_apart p (f i) (f j) (other i l) (other j r) e)) in
    omega (arith, k)

looked : (f : ℕ → ℕ) (v n : ℕ) → ((i : ℕ) × (i < n) × (f i ≡ v)) ⊎ ((i : ℕ) → i < n → f i ≡ v → ⊥)
looked f v zero = inr (λ i l e. omega arith)
looked f v (suc n) =
    ⊎_elim
    (λ found. inl (found.0, omega (arith, found.1), found.2))
    (λ none. ⊎_elim
    (λ e. inl (n, omega arith, e))
    (λ e. inr (λ i l q. ⊎_elim (λ same. e (ap f (sym same) ∙ q)) (λ apart. none i (omega arith) q) (cases_eq i n)))
    (cases_eq (f n) v))
    (looked f v n)

pub covers : (n : ℕ) (f : ℕ → ℕ) → ((i : ℕ) → i < n → f i < n) → ((i j : ℕ) → i < n → j < n → f i ≡ f j → i ≡ j) → (v : ℕ) → v < n → (i : ℕ) × (i < n) × (f i ≡ v)
covers zero f low apart v h = absurd (omega arith)
covers (suc n) f low apart v h =
    ⊎_elim
    (λ found. found)
    (λ none.
    let k : suc n ≤ n =
    fits (suc n) n (λ i. squeezed v (f i))
    (λ i l. squeezed_low v (f i) n (none i l) (low i l) h)
    (λ i j l r e. apart i j l r (squeezed_apart v (f i) (f j) (none i l) (none j r) e)) in
    absurd (omega arith))
    (looked f v (suc n))
