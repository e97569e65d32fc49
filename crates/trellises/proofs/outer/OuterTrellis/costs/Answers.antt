-- Each edge costs what its two coded bits do.
use Rattle.std.proofs.Common.{◌≡◌, ℕ, ◌+◌, ◌-◌, ◌*◌, ◌/◌, ◌%◌, ◌<◌, ◌≢◌, List, length, get_or, drop, ℤ, pos, ap, ◌∙◌, arith, rules, get_or-set_other, get_or-set_same, w16, SFits, to_z, of_z, below_more}
use Rattle.std.proofs.lemmas.Int.{to_z-of_z}
use Rattle.std.proofs.lemmas.List.{get_or_append_left, get_or-append_right, get_or-drop}
use Rattle.trellises.specs.Priors.{penalty}
use Rattle.trellises.specs.Outer.{first_coded, second_coded, outer_cost}
use Rattle.trellises.proofs.OuterEdges.{outer_laid}
use Rattle.trellises.proofs.outer.OuterTrellis.costs.Goals as goal
use Rattle.trellises.proofs.outer.OuterTrellis.costs.Goals.{After-coded-a}

-- what stands at a coded bit
read : (costs : List ℕ) (prior : ℤ) → SFits w16 prior → ((b : ℕ) → b < 2 → get_or costs b 0 ≡ penalty (to_z w16 (of_z w16 prior)) b)
    → (r b : ℕ) → r ≡ b → b < 2 → get_or costs r 0 ≡ penalty prior b
read costs prior f all r b e h = ap (λ b. get_or costs b 0) e ∙ (simp to_z-of_z at (all b h))

paid : (c : After-coded-a) → get_or c.either-first.result c.coded-a.result.0 0 + get_or c.either-second.result c.coded-a.result.1 0
    ≡ outer_cost c.args.self.now.priors.now c.args.k (c.loop-i.i / 2) (c.loop-i.i % 2)
paid c =
    let priors = c.args.self.now.priors.now in
    let first = read c.either-first.result (get_or priors (2 * c.args.k) (pos 0)) (search rules) c.either-first.ensures c.coded-a.result.0 (first_coded (c.loop-i.i / 2) (c.loop-i.i % 2)) c.coded-a.ensures.first (omega arith) in
    let second = read c.either-second.result (get_or priors (2 * c.args.k + 1) (pos 0)) (search rules) c.either-second.ensures c.coded-a.result.1 (second_coded (c.loop-i.i / 2) (c.loop-i.i % 2)) c.coded-a.ensures.second (omega arith) in
    omega arith

pub loop-i-preserved : goal.loop-i-preserved
loop-i-preserved c =
    let lt : c.loop-i.i < length c.loop-i.cost-items = omega arith in
    let paid = paid (goal.at.loop-i-preserved c).After-coded-a in
    below_more _ _ (λ v h. let ne : v ≢ c.loop-i.i = omega arith in rw get_or-set_other (c.loop-i.invariant v h)) (rw get_or-set_same paid)

pub returns-after-loop-i-clause-laid : goal.returns-after-loop-i-clause-laid
returns-after-loop-i-clause-laid c =
    let t = c.args.self.now in
    outer_laid t.n t.priors.now c.args.k _ (omega arith) (λ v h. let lt : v < length c.loop-i.cost-items = omega arith in get_or_append_left c.loop-i.cost-items _ 0 v lt ∙ c.loop-i.invariant v (omega arith))

pub returns-after-loop-i-clause-rest : goal.returns-after-loop-i-clause-rest
returns-after-loop-i-clause-rest c i here past =
    let l : length c.loop-i.cost-items ≡ 8 = omega arith in
    let at : 8 + (i - 8) ≡ i = omega arith in
    get_or-append_right c.loop-i.cost-items (drop 8 c.args.out.now) 8 i 0 l past ∙ get_or-drop 8 c.args.out.now (i - 8) 0 ∙ ap (λ j. get_or c.args.out.now j 0) at
