-- What the metastages of the levels join: the walks across the stages that they cover.
use Rattle.std.proofs.Common.{◌≡◌, ℕ, suc, ◌+◌, ◌-◌, ◌*◌, ◌/◌, ◌%◌, ◌<◌, sym, ap, ◌∙◌, add-one, arith}
use Rattle.paths.specs.Semirings.{Operations, Semiring}
use Rattle.paths.specs.Trellises.{Meaning, Lawful}
use Rattle.paths.specs.Paths.{states_below, across, join_over, path_join}
use Rattle.paths.specs.Metastages.{of_stage, level_size, covers_from}
use Rattle.paths.proofs.Levels.{covers_stage, covers_zero, covers_end, covers_up, covers_low, pair_covers, odd_covers}
use Rattle.paths.proofs.Products.{stage_across, products_are_joins}

-- the join over the walks from s to t across what metastage j of level l covers
abbrev pub covered : {W : Type 0} → Operations W → Meaning → ℕ → ℕ → ℕ → ℕ → W
covered o m l j s t = path_join o (across m (covers_from m.stages l j) (covers_from m.stages l (j + 1)) s t)

module _ {W : Type 0} {fine : W → Type 0} {o : Operations W} (laws : Semiring fine o) (m : Meaning) where
  -- the metastage of a stage
  pub stage_covered : (states k s t : ℕ) → k < m.stages → of_stage o (m.edges k) s t ≡ covered o m 0 k s t
  stage_covered states k s t h =
      stage_across laws states m k s t
      ∙ ap (λ a. path_join o (across m a (suc k) s t)) (sym (covers_stage m.stages k (omega arith)))
      ∙ ap (λ b. path_join o (across m (covers_from m.stages 0 k) b s t)) (sym (add-one k) ∙ sym (covers_stage m.stages (k + 1) (omega arith)))

  -- two neighbours of a level
  pub pair_covered : (states ceiling bits : ℕ) → Lawful states ceiling bits m → (l j s t : ℕ) → s < states → t < states
      → join_over o (λ v. o.chain (covered o m l (2 * j) s v) (covered o m l (2 * j + 1) v t)) (states_below states) ≡ covered o m (suc l) j s t
  pair_covered states ceiling bits law l j s t small little =
      let n = m.stages in
      let next : 2 * j + 1 + 1 ≡ 2 * j + 2 = omega arith in
      products_are_joins laws states ceiling bits m law (covers_from n l (2 * j)) (covers_from n l (2 * j + 1)) (covers_from n l (2 * j + 1 + 1))
      (covers_up n l (2 * j) (2 * j + 1) (omega arith)) (covers_up n l (2 * j + 1) (2 * j + 1 + 1) (omega arith)) (covers_low n l (2 * j + 1 + 1)) s t small little
      ∙ ap (λ a. path_join o (across m a (covers_from n l (2 * j + 1 + 1)) s t)) (sym (pair_covers n l j).0)
      ∙ ap (λ b. path_join o (across m (covers_from n (suc l) j) b s t)) (ap (covers_from n l) next ∙ sym (pair_covers n l j).1)

  -- a last odd one
  pub odd_covered : (l many s t : ℕ) → many ≡ level_size m.stages l → many % 2 ≡ 1 → covered o m l (many - 1) s t ≡ covered o m (suc l) (many / 2) s t
  odd_covered l many s t is odd =
      let n = m.stages in
      let same : many - 1 + 1 ≡ many = omega arith in
      let c = odd_covers n l many is odd in
      ap (λ a. path_join o (across m a (covers_from n l (many - 1 + 1)) s t)) (sym c.0)
      ∙ ap (λ b. path_join o (across m (covers_from n (suc l) (many / 2)) b s t)) (ap (covers_from n l) same ∙ sym c.1)

  -- the one that is left
  pub all_covered : (l s t : ℕ) → level_size m.stages l ≡ 1 → covered o m l 0 s t ≡ path_join o (across m 0 m.stages s t)
  all_covered l s t one =
      let n = m.stages in
      ap (λ a. path_join o (across m a (covers_from n l (0 + 1)) s t)) (covers_zero n l)
      ∙ ap (λ b. path_join o (across m 0 b s t)) (covers_end n l (0 + 1) (omega arith))
