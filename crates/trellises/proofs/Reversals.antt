-- What a reversal's stage costs, by the costs of the stage that it mirrors.
use Rattle.std.proofs.Common.{◌≡◌, ℕ, ◌+◌, ◌-◌, List, get_or, Some, None, Option, sym, refl, ap, ◌∙◌, arith}
use Rattle.std.specs.Option.{option_map}
use Rattle.paths.specs.declared.edges.Edge.{Edge}
use Rattle.paths.specs.Trellises.{Meaning, edge_at, flipped, reversed}
use Rattle.paths.proofs.Reverses.{reversed_edge_at}

cost_kept : (i : ℕ) (r : Option Edge) (f : Edge) (ys : List ℕ) → ((d : Edge) → r ≡ Some d → get_or ys i 0 ≡ d.cost) → option_map flipped r ≡ Some f → get_or ys i 0 ≡ f.cost
cost_kept i (Some d) f ys all q = let same : flipped d ≡ f = cc in all d refl ∙ ap (λ e. e.cost) same
cost_kept i None f ys all q = let z : ◌≡◌ {A = ℕ} 0 1 = cc in absurd (omega arith)

pub turned_costs : (m : Meaning) (k j : ℕ) → j + 1 + k ≡ m.stages → (ys : List ℕ) → ((i : ℕ) (d : Edge) → edge_at m j i ≡ Some d → get_or ys i 0 ≡ d.cost)
    → (i : ℕ) (f : Edge) → edge_at (reversed m) k i ≡ Some f → get_or ys i 0 ≡ f.cost
turned_costs m k j e ys all i f q =
    let same : j ≡ m.stages - 1 - k = omega arith in
    cost_kept i (edge_at m j i) f ys (all i) (ap (λ j. option_map flipped (edge_at m j i)) same ∙ sym (reversed_edge_at m k i (omega arith)) ∙ q)
