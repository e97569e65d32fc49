-- Candidates joined in whatever order: the least lies in their window, and what is joined modulo 65,536 stands for the least.
use Rattle.std.proofs.Common.{◌≡◌, ℕ, ◌<◌, min, Bool, true, ◌||◌, refl, ◌∙◌, inl}
use Rattle.std.proofs.lemmas.Bool.{or_left, or_right}
use Rattle.paths.specs.Joins.{Joins, nothing, single, both}
use Rattle.paths.specs.Least.{least, top}
use Rattle.modulo.specs.Modulo.{modulo}
use Rattle.modulo.proofs.Windows.{Within, StandsWithin, join_window, join_within}

-- what passes on one side passes
on_left : (left right pass : ℕ → Bool) → ((i : ℕ) → pass i ≡ (left i || right i)) → (i : ℕ) → left i ≡ true → pass i ≡ true
on_left left right pass cover i h = cover i ∙ or_left (left i) (right i) h

on_right : (left right pass : ℕ → Bool) → ((i : ℕ) → pass i ≡ (left i || right i)) → (i : ℕ) → right i ≡ true → pass i ≡ true
on_right left right pass cover i h = cover i ∙ or_right (left i) (right i) h

pub joins_window : (lo d : ℕ) (f : ℕ → ℕ) {pass : ℕ → Bool} {x : ℕ} → ((i : ℕ) → pass i ≡ true → Within lo d (f i)) → Joins least f pass x → Within lo d x
joins_window lo d f h (nothing pass none) = inl refl
joins_window lo d f h (single pass i here only) = h i here
joins_window lo d f h (both left right pass x y l r apart cover) =
    join_window lo d x y (joins_window lo d f (λ i p. h i (on_left left right pass cover i p)) l) (joins_window lo d f (λ i p. h i (on_right left right pass cover i p)) r)

pub joins_within : (lo d : ℕ) → d < 32768 → (f f' : ℕ → ℕ) {pass : ℕ → Bool} {y : ℕ} → ((i : ℕ) → pass i ≡ true → StandsWithin lo d (f i) (f' i))
    → Joins modulo f' pass y → (x : ℕ) × Joins least f pass x × StandsWithin lo d x y
joins_within lo d small f f' h (nothing pass none) = (top, nothing pass none, inl (refl, refl))
joins_within lo d small f f' h (single pass i here only) = (f i, single pass i here only, h i here)
joins_within lo d small f f' h (both left right pass x y l r apart cover) =
    let a = joins_within lo d small f f' (λ i p. h i (on_left left right pass cover i p)) l in
    let b = joins_within lo d small f f' (λ i p. h i (on_right left right pass cover i p)) r in
    (min a.0 b.0, both left right pass a.0 b.0 a.1 b.1 apart cover, join_within lo d a.0 x b.0 y small a.2 b.2)
