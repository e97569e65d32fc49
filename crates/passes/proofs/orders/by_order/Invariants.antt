use Rattle.std.proofs.Common.{Option, None, ◌≡◌, ℕ, ◌+◌, ◌-◌, ◌*◌, ◌≤◌, get_or, drop}
use Rattle.passes.proofs.Blocks.{Blocks}
use Rattle.passes.proofs.Counts.{opens}
use Rattle.passes.proofs.Follows.{follows}
use Rattle.passes.specs.Orders.{followed, ends_made, made_last}
use Rattle.passes.specs.Tables.{Spare}
use Rattle.passes.proofs.Stands.{Standing, Made}
use Rattle.passes.proofs.orders.by_order.Given as goal

abbrev pub invariant-loop-j : goal.invariant-loop-j
invariant-loop-j g l =
    let m = g.T.Trellis.meaning l.t in
    Blocks l.stages l.spans
    × Standing g.W.Weights.ops l.states m l.stages l.spans l.table
    × (opens l.spans (l.stages - 1) + l.j-index ≡ l.stages - 1)
    × (follows l.stages l.initial.spans l.order ≡ follows l.stages l.spans (drop l.j-index l.order))
    × ((p : ℕ) → l.stages * (l.states * l.states) + l.states * l.states ≤ p → get_or l.table p g.W.Weights.ops.none ≡ get_or l.fn.table p g.W.Weights.ops.none)
    × (followed l.stages l.initial.spans l.order ≡ followed l.stages l.spans (drop l.j-index l.order))
    × ((r : ℕ → ℕ) × (((a : ℕ) → ends_made l.stages l.initial.spans (λ b. b + 1) l.order a ≡ ends_made l.stages l.spans r (drop l.j-index l.order) a) × Made g.W.Weights.ops l.states m l.stages r l.table))
    × ((x : Option ℕ) × ((made_last l.stages l.initial.spans None l.order ≡ made_last l.stages l.spans x (drop l.j-index l.order)) × Spare g.W.Weights.ops l.states l.stages x l.fn.table l.table))
