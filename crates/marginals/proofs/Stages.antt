-- The fold of a stage's words is joined of the candidates of its edges.
use Rattle.std.proofs.Common.{◌≡◌, ℕ, ◌^◌, ◌<◌, List, get_or, Some, None, Option, sym, refl, ap, ◌∙◌, subst, arith, ◌-◌, ◌≤◌}
use Rattle.std.specs.List.{slice_get}
use Rattle.paths.specs.declared.edges.Edge.{Edge}
use Rattle.paths.specs.Semirings.{Operations}
use Rattle.paths.specs.Trellises.{Meaning, Lawful}
use Rattle.paths.specs.Joins.{Joins, offered, candidate, edges_with}
use Rattle.marginals.specs.Words.{entry_of, word_is, word_below, offered_in, framed}
use Rattle.marginals.specs.Halves.{held, halved, lower, upper}
use Rattle.paths.proofs.Inside.{edge_lawful}
use Rattle.marginals.proofs.Frames.{FrameLaid}
use Rattle.marginals.proofs.Picks.{joins_of}
use Rattle.marginals.proofs.FoldedJoins.{lower_joins, upper_joins, halved_joins}

-- an edge offers the same by the frame and by the columns
by_columns : {W : Type 0} (o : Operations W) (frame before after : List W) (states : ℕ) → FrameLaid o before after states states frame
    → (r : Option Edge) → ((e : Edge) → r ≡ Some e → (e.from < states) × (e.to < states)) → offered_in o states frame r ≡ offered o (entry_of o before) (entry_of o after) r
by_columns o frame before after states laid None low = refl
by_columns o frame before after states laid (Some e) low = let l = low e refl in ap (λ x. o.chain x (o.value e.cost)) (laid e.from e.to l.0 l.1)

module _ {W : Type 0} (o : Operations W) {states ceiling bits : ℕ} (m : Meaning) (law : Lawful states ceiling bits m) (k : ℕ) (here : k < m.stages)
    (frame words before after : List W) (n : ℕ) (wide : n ≡ bits) (laid : FrameLaid o before after states states frame)
    (gathered : (w : ℕ) → w < 2 ^ bits → Joins o (framed o states frame (m.edges k)) (word_is (m.edges k) w) (get_or words w o.none)) where
  same : (i : ℕ) → framed o states frame (m.edges k) i ≡ candidate o (entry_of o before) (entry_of o after) (m.edges k) i
  same i =
      by_columns o frame before after states laid (slice_get (m.edges k) i)
      (λ e at. let l = edge_lawful law k here i e at in (l.from_low, l.to_low))

  pub stage_zeros : (f : ℕ → W) → ((b : ℕ) → b < n → f b ≡ lower o (held o words) n b)
      → (b : ℕ) → b < bits → Joins o (candidate o (entry_of o before) (entry_of o after) (m.edges k)) (edges_with (m.edges k) b 0) (f b)
  stage_zeros f folded b h =
      subst (Joins o (candidate o (entry_of o before) (entry_of o after) (m.edges k)) (edges_with (m.edges k) b 0))
      (sym (folded b (omega arith) ∙ ap (λ n. lower o (held o words) n b) wide))
      (joins_of _ _ same _ _
      (lower_joins (framed o states frame (m.edges k)) (held o words) (m.edges k) bits (λ i e at. (edge_lawful law k here i e at).word_low) gathered b h))

  pub stage_ones : (f : ℕ → W) → ((b : ℕ) → b < n → f b ≡ upper o (held o words) n b)
      → (b : ℕ) → b < bits → Joins o (candidate o (entry_of o before) (entry_of o after) (m.edges k)) (edges_with (m.edges k) b 1) (f b)
  stage_ones f folded b h =
      subst (Joins o (candidate o (entry_of o before) (entry_of o after) (m.edges k)) (edges_with (m.edges k) b 1))
      (sym (folded b (omega arith) ∙ ap (λ n. upper o (held o words) n b) wide))
      (joins_of _ _ same _ _
      (upper_joins (framed o states frame (m.edges k)) (held o words) (m.edges k) bits (λ i e at. (edge_lawful law k here i e at).word_low) gathered b h))

  -- what the folds leave in a word
  pub word_left : (b x : ℕ) → b ≤ bits → x < 2 ^ b → (w : W) → w ≡ halved o (held o words) b (n - b) x → Joins o (candidate o (entry_of o before) (entry_of o after) (m.edges k)) (word_below (m.edges k) b x) w
  word_left b x low under w is =
      subst (Joins o (candidate o (entry_of o before) (entry_of o after) (m.edges k)) (word_below (m.edges k) b x))
      (sym (is ∙ ap (λ n. halved o (held o words) b (n - b) x) wide))
      (joins_of _ _ same _ _
      (halved_joins (framed o states frame (m.edges k)) (held o words) (m.edges k) bits (λ i e at. (edge_lawful law k here i e at).word_low) gathered (bits - b) b x (omega arith) under))
