-- What stands in a part of a table stands on while only other parts change.
use Rattle.std.proofs.Common.{ℕ, ◌+◌, ◌*◌, ◌≤◌, List, ◌∙◌, inl, inr, ⊎_elim, arith}
use Rattle.paths.specs.Semirings.{Operations}
use Rattle.paths.specs.Trellises.{Meaning}
use Rattle.passes.specs.Tables.{Kept, columns_size, stage_at, forward_at, backward_at, Stages, Forward, Backward}
use Rattle.passes.proofs.Rows.{rows, row_more}
use Rattle.passes.proofs.Rooms.{entry_room}

module _ {W : Type 0} (o : Operations W) where
  -- a smaller part that changes
  pub kept_wider : (a w b x : ℕ) (old new : List W) → Kept o a w old new → b ≤ a → a + w ≤ b + x → Kept o b x old new
  kept_wider a w b x old new kept h k p out = kept p (⊎_elim (λ l. inl (omega arith)) (λ l. inr (omega arith)) out)

  -- one change after another
  pub kept_both : (a w : ℕ) (old mid new : List W) → Kept o a w old mid → Kept o a w mid new → Kept o a w old new
  kept_both a w old mid new first next p out = next p out ∙ first p out

  -- the metastages of the stages, where only what lies before them changes
  pub stages_kept : (states : ℕ) (m : Meaning) (base a w : ℕ) (old new : List W) → Stages o states m base old → Kept o a w old new → a + w ≤ base → Stages o states m base new
  stages_kept states m base a w old new stand kept before k x y h small little = kept (stage_at base states k x y) (inr (omega arith)) ∙ stand k x y h small little

  -- and where only what lies behind them changes
  pub stages_before : (states : ℕ) (m : Meaning) (base a w : ℕ) (old new : List W) → Stages o states m base old → Kept o a w old new → base + m.stages * (states * states) ≤ a → Stages o states m base new
  stages_before states m base a w old new stand kept behind k x y h small little =
      let e = entry_room x y states small little in
      let r = rows (k + 1) m.stages (states * states) (omega arith) in
      let q = row_more k (states * states) in
      kept (stage_at base states k x y) (inl (omega arith)) ∙ stand k x y h small little

  -- the forward columns, where only what lies behind them changes
  pub forward_kept : (states : ℕ) (m : Meaning) (a w : ℕ) (old new : List W) → Forward o states m old → Kept o a w old new → columns_size states m.stages ≤ a → Forward o states m new
  forward_kept states m a w old new stand kept behind k s h small = let r = rows k m.stages states h in kept (forward_at states k s) (inl (omega arith)) ∙ stand k s h small

  -- the backward columns, where only what lies behind them changes
  pub backward_kept : (states : ℕ) (m : Meaning) (a w : ℕ) (old new : List W) → Backward o states m old → Kept o a w old new → columns_size states m.stages + columns_size states m.stages ≤ a → Backward o states m new
  backward_kept states m a w old new stand kept behind k s h small =
      let r = rows k m.stages states h in
      kept (backward_at states m.stages k s) (inl (omega arith)) ∙ stand k s h small
