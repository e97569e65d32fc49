-- The list of paths is exactly right: each choice that is a path occurs once, any other not at all.
use Rattle.std.proofs.Common.{◌≡◌, ℕ, zero, suc, ◌-◌, ◌≤◌, Bool, true, false, cond, List, [], get_or, Some, sym, refl, ap, ◌∙◌, ⊎_elim, zero-add, arith}
use Rattle.std.specs.List.{slice_get}
use Rattle.std.proofs.lemmas.Bool.{cases_Bool}
use Rattle.paths.specs.declared.edges.Edge.{Edge}
use Rattle.paths.specs.Trellises.{Meaning}
use Rattle.paths.specs.Choices.{numbered_walks, occurrences, IsPath, PathsAreExact}
use Rattle.paths.proofs.Occurrences.{test, walks_count, none_of, one_of}
use Rattle.paths.proofs.Runs.{Run, reached, run_test, test_run, both_true}
use Rattle.paths.proofs.Named.{paths_named}

module _ (m : Meaning) (c : List ℕ) where
  abbrev full : ℕ → Bool
  full s = cond (m.first s) (test m.edges m.last 0 m.stages s c) false

  full_right : (s : ℕ) → occurrences c (cond (m.first s) (numbered_walks m.edges m.last 0 m.stages s) []) ≡ cond (full s) 1 0
  full_right s = elim (m.first s) as (λ b. occurrences c (cond b (numbered_walks m.edges m.last 0 m.stages s) []) ≡ cond (cond b (test m.edges m.last 0 m.stages s c) false) 1 0)
      [ true ↦ walks_count m.edges m.last 0 m.stages s c | false ↦ refl ]

  last_edge : (n : ℕ) (edge : ℕ → Edge) (s : ℕ) → 1 ≤ n → reached n s edge ≡ (edge (n - 1)).to
  last_edge zero edge s h = absurd (omega arith)
  last_edge (suc n) edge s h = let q : n ≡ suc n - 1 = omega arith in ap (λ j. (edge j).to) q

  to_run : 1 ≤ m.stages → (p : IsPath m c) → Run m.edges m.last 0 m.stages (p.edge 0).from c p.edge
  to_run some p = record {
    long = p.long;
    named = λ j l. ap (λ x. slice_get (m.edges x) (get_or c j 0)) (zero-add j) ∙ p.named j l;
    starts = λ l. refl;
    chains = p.chains;
    ends = ap m.last (last_edge m.stages p.edge (p.edge 0).from some) ∙ p.ends;
  }

  from_run : 1 ≤ m.stages → (s : ℕ) → m.first s ≡ true → (edge : ℕ → Edge) → Run m.edges m.last 0 m.stages s c edge → IsPath m c
  from_run some s f edge r = record {
    edge = edge;
    long = r.long;
    named = λ k l. ap (λ x. slice_get (m.edges x) (get_or c k 0)) (sym (zero-add k)) ∙ r.named k l;
    starts = ap m.first (r.starts some) ∙ f;
    chains = r.chains;
    ends = ap m.last (sym (last_edge m.stages edge s some)) ∙ r.ends;
  }

  is_full : 1 ≤ m.stages → (s : ℕ) → full s ≡ true → IsPath m c
  is_full some s h =
      let b = both_true (m.first s) (test m.edges m.last 0 m.stages s c) h in
      let r = test_run m.edges m.last 0 m.stages s c b.1 in
      from_run some s b.0 r.0 r.1

  -- a path starts in one state only
  only_from : 1 ≤ m.stages → (p : IsPath m c) (s : ℕ) → (s ≡ (p.edge 0).from → ⊥) → full s ≡ false
  only_from some p s apart =
      ⊎_elim
      (λ h.
      let b = both_true (m.first s) (test m.edges m.last 0 m.stages s c) h in
      let r = test_run m.edges m.last 0 m.stages s c b.1 in
      let there : slice_get (m.edges 0) (get_or c 0 0) ≡ Some (r.0 0) = r.1.named 0 some in
      let too : slice_get (m.edges 0) (get_or c 0 0) ≡ Some (p.edge 0) = p.named 0 some in
      let q : r.0 0 ≡ p.edge 0 = cc in
      absurd (apart (sym (r.1.starts some) ∙ ap (λ e. e.from) q)))
      (λ h. h)
      (cases_Bool (full s))

pub paths_exact : PathsAreExact
paths_exact states ceiling bits m law =
    let some = law.some_stages in record {
      once = λ c p.
          let v = (p.edge 0).from in
          let yes_all : full m c v ≡ true = ap (λ b. cond b (test m.edges m.last 0 m.stages v c) false) p.starts ∙ run_test m.edges m.last 0 m.stages v c p.edge (to_run m c some p) in
          let small = law.first_low v p.starts in
          one_of c (λ s. cond (m.first s) (numbered_walks m.edges m.last 0 m.stages s) []) (full m c) (full_right m c) states v small yes_all (only_from m c some p);
      never = λ c not_path.
          none_of c (λ s. cond (m.first s) (numbered_walks m.edges m.last 0 m.stages s) []) (full m c) (full_right m c) states
          (λ s l. ⊎_elim (λ h. absurd (not_path (is_full m c some s h))) (λ h. h) (cases_Bool (full m c s)));
      by_edges = paths_named states m;
    }
