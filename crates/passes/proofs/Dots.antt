-- One entry of a column: in tables that agree, and in a semiring.
use Rattle.std.proofs.Common.{◌≡◌, ℕ, zero, suc, ◌+◌, ◌*◌, ◌<◌, List, get_or, refl, ap, ◌∙◌, arith}
use Rattle.paths.specs.Semirings.{Operations, Semiring}
use Rattle.paths.specs.Paths.{states_below, join_over}
use Rattle.paths.specs.Columns.{join_below}
use Rattle.paths.proofs.Gathers.{join_below_is}
use Rattle.passes.specs.Tables.{dotted}

module _ {W : Type 0} (o : Operations W) where
  pub below_same : (n : ℕ) (f g : ℕ → W) → ((x : ℕ) → x < n → f x ≡ g x) → join_below o n f ≡ join_below o n g
  unfolding join_below
  below_same zero f g h = refl
  below_same (suc n) f g h = ap (λ u. o.join u (f n)) (below_same n f g (λ x l. h x (omega arith))) ∙ ap (o.join (join_below o n g)) (h n (omega arith))

  pub below_zero : (f : ℕ → W) → join_below o 0 f ≡ o.none
  unfolding join_below
  below_zero f = refl

  pub below_suc : (n : ℕ) (f : ℕ → W) → join_below o (suc n) f ≡ o.join (join_below o n f) (f n)
  unfolding join_below
  below_suc n f = refl

  pub dotted_same : (states : ℕ) (a b : List W) (from meta row : ℕ)
      → ((x : ℕ) → x < states → get_or a (from + x) o.none ≡ get_or b (from + x) o.none) → ((x : ℕ) → x < states → get_or a (meta + x * row) o.none ≡ get_or b (meta + x * row) o.none)
      → dotted o states a from meta row ≡ dotted o states b from meta row
  dotted_same states a b from meta row left right =
      below_same states (λ x. o.chain (get_or a (from + x) o.none) (get_or a (meta + x * row) o.none)) (λ x. o.chain (get_or b (from + x) o.none) (get_or b (meta + x * row) o.none))
      (λ x small.
      ap (λ u. o.chain u (get_or a (meta + x * row) o.none)) (left x small)
      ∙ ap (o.chain (get_or b (from + x) o.none)) (right x small))

module _ {W : Type 0} {fine : W → Type 0} {o : Operations W} (laws : Semiring fine o) where
  -- a row of one metastage with a column of another, in a semiring
  pub dotted_joins : (states : ℕ) (tb : List W) (left right : ℕ) (x y : ℕ → W) → ((v : ℕ) → fine (x v)) → ((v : ℕ) → fine (y v))
      → ((v : ℕ) → v < states → get_or tb (left + v) o.none ≡ x v) → ((v : ℕ) → v < states → get_or tb (right + v * states) o.none ≡ y v)
      → dotted o states tb left right states ≡ join_over o (λ v. o.chain (x v) (y v)) (states_below states)
  dotted_joins states tb left right x y x_fine y_fine a b =
      below_same o states (λ v. o.chain (get_or tb (left + v) o.none) (get_or tb (right + v * states) o.none)) (λ v. o.chain (x v) (y v))
      (λ v lt. ap (λ u. o.chain u (get_or tb (right + v * states) o.none)) (a v lt) ∙ ap (o.chain (x v)) (b v lt))
      ∙ join_below_is laws states (λ v. o.chain (x v) (y v)) (λ v. laws.chain_fine _ _ (x_fine v) (y_fine v))
