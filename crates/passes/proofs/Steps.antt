-- One column more: the forward step, and the same step with rows and columns exchanged.
use Rattle.std.proofs.Common.{◌≡◌, ℕ, suc, ◌+◌, ◌-◌, ◌*◌, ◌<◌, List, map, get_or, sym, ap, ◌∙◌, subst, add-one, arith}
use Rattle.paths.specs.Semirings.{Operations}
use Rattle.paths.specs.Trellises.{Meaning, flipped, reversed}
use Rattle.paths.specs.Columns.{parallel, join_below, forward, backward}
use Rattle.paths.proofs.Gathers.{flipped_parallel}
use Rattle.passes.specs.Tables.{stage_at, Stages, dotted}
use Rattle.passes.proofs.Dots.{below_same}

module _ {W : Type 0} (o : Operations W) (w : ℕ) (m : Meaning) (base : ℕ) (tb : List W) (stand : Stages o w m base tb) (k : ℕ) (here : k < m.stages) where
  -- `v` is the number of states as the code has it
  pub step_forward : (v : ℕ) → v ≡ w → (from : ℕ) → ((s : ℕ) → s < w → get_or tb (from + s) o.none ≡ forward o w m k s)
      → (y : ℕ) → y < w → dotted o v tb from (base + k * (v * v) + y * 1) v ≡ forward o w m (k + 1) y
  unfolding forward
  step_forward v is from was y little =
      let f : ℕ → W = λ x. o.chain (get_or tb (from + x) o.none) (get_or tb (base + k * (w * w) + y * 1 + x * w) o.none) in
      let h : ℕ → W = λ x. o.chain (forward o w m k x) (parallel o (m.edges k) x y) in
      let here_too : join_below o w f ≡ join_below o w h =
      below_same o w f h
      (λ x small.
      let at : base + k * (w * w) + y * 1 + x * w ≡ stage_at base w k x y = omega arith in
      ap (λ u. o.chain u (get_or tb (base + k * (w * w) + y * 1 + x * w) o.none)) (was x small)
      ∙ ap (o.chain (forward o w m k x)) (ap (λ a. get_or tb a o.none) at ∙ stand k x y here small little)) in
      subst (λ v. dotted o v tb from (base + k * (v * v) + y * 1) v ≡ forward o w m (suc k) y) (sym is) here_too
      ∙ ap (λ n. forward o w m n y) (sym (add-one k))

  pub step_backward : (v : ℕ) → v ≡ w → (from : ℕ) → ((s : ℕ) → s < w → get_or tb (from + s) o.none ≡ backward o w m (k + 1) s)
      → (y : ℕ) → y < w → dotted o v tb from (base + k * (v * v) + y * v) 1 ≡ backward o w m k y
  unfolding forward
  step_backward v is from was y little =
      let n = m.stages - (k + 1) in
      let one_more : m.stages - k ≡ suc n = omega arith in
      let turned : m.stages - 1 - n ≡ k = omega arith in
      let f : ℕ → W = λ x. o.chain (get_or tb (from + x) o.none) (get_or tb (base + k * (w * w) + y * w + x * 1) o.none) in
      let h : ℕ → W = λ x. o.chain (forward o w (reversed m) n x) (parallel o (map flipped (m.edges (m.stages - 1 - n))) x y) in
      let here_too : join_below o w f ≡ join_below o w h =
      below_same o w f h
      (λ x small.
      let at : base + k * (w * w) + y * w + x * 1 ≡ stage_at base w k y x = omega arith in
      ap (λ u. o.chain u (get_or tb (base + k * (w * w) + y * w + x * 1) o.none)) (was x small)
      ∙ ap (o.chain (forward o w (reversed m) n x))
      (ap (λ a. get_or tb a o.none) at ∙ stand k y x here little small ∙ sym (flipped_parallel o (m.edges k) y x) ∙ ap (λ j. parallel o (map flipped (m.edges j)) x y) (sym turned))) in
      subst (λ v. dotted o v tb from (base + k * (v * v) + y * v) 1 ≡ forward o w (reversed m) (suc n) y) (sym is) here_too
      ∙ ap (λ i. forward o w (reversed m) i y) (sym one_more)
