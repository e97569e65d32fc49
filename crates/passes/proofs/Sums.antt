-- Columns and metastages joined in first and last states: the join over all paths.
use Rattle.std.proofs.Common.{◌≡◌, ℕ, ◌+◌, ◌*◌, ◌<◌, cond, eqb, List, get_or, sym, refl, ap, ◌∙◌, add-one, arith}
use Rattle.std.proofs.lemmas.List.Edits.{get_or-between}
use Rattle.std.specs.Prelude.{slice_range}
use Rattle.paths.specs.declared.edges.Edge.{Edge}
use Rattle.paths.specs.Semirings.{Operations, Semiring}
use Rattle.paths.specs.Trellises.{Meaning, Lawful}
use Rattle.paths.specs.Columns.{forward}
use Rattle.paths.specs.Paths.{states_below, paths, before, across, join_over, path_join}
use Rattle.paths.proofs.Inside.{Low, inside}
use Rattle.paths.proofs.Overs.{cond_fine, over_fine, over_kept}
use Rattle.paths.proofs.Gathers.{gathered_is, join_below_is}
use Rattle.paths.proofs.Carried.{joins_fine}
use Rattle.paths.proofs.Steps.{step_forward}
use Rattle.paths.proofs.Passes.{columns_are_joins}
use Rattle.paths.proofs.Products.{first_to_last_is}
use Rattle.passes.specs.Totals.{in_last, from_first, by_edges}
use Rattle.passes.proofs.Rows.{row_more}
use Rattle.passes.proofs.Dots.{below_same}
use Rattle.passes.proofs.Turns.{gathered_each}

module _ {W : Type 0} {fine : W → Type 0} {o : Operations W} (laws : Semiring fine o) {w ceiling bits : ℕ} (m : Meaning) (law : Lawful w ceiling bits m) where
  -- the column behind the last stage, in last states
  pub last_column : (column : List W) → ((s : ℕ) → s < w → get_or column s o.none ≡ path_join o (before w m m.stages s)) → in_last o w m column ≡ path_join o (paths w m)
  last_column column is =
      let f : ℕ → W = λ s. cond (m.last s) (get_or column s o.none) o.none in
      let h : ℕ → W = λ s. cond (m.last s) (path_join o (before w m m.stages s)) o.none in
      below_same o w f h (λ s small. ap (λ u. cond (m.last s) u o.none) (is s small))
      ∙ join_below_is laws w h (λ s. cond_fine laws (m.last s) _ (joins_fine laws (before w m m.stages s)))
      ∙ (columns_are_joins laws w ceiling bits m law).answer

  -- the metastage of all stages, from first to last states
  pub last_metastage : (square : List W) → ((x y : ℕ) → x < w → y < w → get_or square (x * w + y) o.none ≡ path_join o (across m 0 m.stages x y)) → from_first o w m square ≡ path_join o (paths w m)
  last_metastage square is =
      let row = λ (x : ℕ). slice_range square (x * w) ((x + 1) * w) in
      let e : ℕ → ℕ → W = λ x y. cond (m.last y) (path_join o (across m 0 m.stages x y)) o.none in
      let e_fine : (x y : ℕ) → fine (e x y) = λ x y. cond_fine laws (m.last y) _ (joins_fine laws (across m 0 m.stages x y)) in
      let f : ℕ → W = λ x. cond (m.first x) (in_last o w m (row x)) o.none in
      let h : ℕ → W = λ x. cond (m.first x) (join_over o (e x) (states_below w)) o.none in
      below_same o w f h
      (λ x small. ap (λ u. cond (m.first x) u o.none)
      (below_same o w (λ y. cond (m.last y) (get_or (row x) y o.none) o.none) (e x)
      (λ y little.
      let inside_row : x * w + y < (x + 1) * w = omega (arith, row_more x w) in
      ap (λ u. cond (m.last y) u o.none) (get_or-between square (x * w) ((x + 1) * w) y o.none inside_row ∙ is x y small little))
      ∙ join_below_is laws w (e x) (e_fine x)))
      ∙ join_below_is laws w h (λ x. cond_fine laws (m.first x) _ (over_fine laws (e x) (e_fine x) (states_below w)))
      ∙ first_to_last_is laws w m (inside law) (λ x y. path_join o (across m 0 m.stages x y)) (λ x y small little. refl)

  -- one column more, edge by edge
  pub column_by_edges : (column : List W) (k : ℕ) → k < m.stages → ((s : ℕ) → s < w → get_or column s o.none ≡ path_join o (before w m k s))
      → (s : ℕ) → by_edges o column (m.edges k) s ≡ path_join o (before w m (k + 1) s)
  column_by_edges column k here was s =
      let test = λ (e : Edge). eqb e.to s in
      let v : Edge → W = λ e. o.chain (get_or column e.from o.none) (o.value e.cost) in
      let u : Edge → W = λ e. o.chain (path_join o (before w m k e.from)) (o.value e.cost) in
      let u_fine : (e : Edge) → fine (u e) = λ e. laws.chain_fine _ _ (joins_fine laws (before w m k e.from)) (laws.value_fine e.cost) in
      gathered_each o (Low w) test v u (λ e low. ap (λ a. o.chain a (o.value e.cost)) (was e.from low.from_low)) o.none (m.edges k) (inside law k here)
      ∙ gathered_is laws test u u_fine (m.edges k)
      ∙ over_kept laws u u_fine test (m.edges k)
      ∙ sym (step_forward laws w m (inside law) k s here)
      ∙ ap (λ n. path_join o (before w m n s)) (sym (add-one k))

  -- the same for the forward columns
  pub forward_by_edges : (column : List W) (k : ℕ) → k < m.stages → ((s : ℕ) → s < w → get_or column s o.none ≡ forward o w m k s)
      → (s : ℕ) → s < w → by_edges o column (m.edges k) s ≡ forward o w m (k + 1) s
  forward_by_edges column k here was s small =
      let forth = (columns_are_joins laws w ceiling bits m law).forth in
      column_by_edges column k here (λ s h. was s h ∙ forth k s (omega arith) h) s ∙ sym (forth (k + 1) s (omega arith) small)
