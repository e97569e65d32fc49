-- The outer trellis, told one prior, has its stage's edges charged by it, so nothing told comes back.
use Rattle.std.proofs.Common.{◌≡◌, ℕ, zero, suc, ◌+◌, ◌*◌, ◌/◌, ◌%◌, ◌<◌, ◌≤◌, eqb, List, map, length, get_or, set, ℤ, pos, ap, ◌∙◌, add-zero, arith}
use Rattle.std.specs.List.{range_with_len}
use Rattle.std.proofs.lemmas.Nat.{mod_below}
use Rattle.std.proofs.lemmas.List.{get_or-set_same}
use Rattle.paths.specs.declared.edges.Edge.{Edge}
use Rattle.trellises.specs.Priors.{bit, penalty}
use Rattle.trellises.specs.Outer.{first_coded, second_coded, outer_word, outer_cost, outer, outer_at}
use Rattle.trellises.specs.OuterLaws.{outer_lawful}
use Rattle.trellises.proofs.OuterFree.{coded_free}
use Rattle.extrinsics.specs.Extrinsics.{Within511, OuterLeavesPriorOut}
use Rattle.extrinsics.proofs.Charged.{charged, Told}
use Rattle.extrinsics.proofs.Sent.{Open, left_out}
use Rattle.extrinsics.proofs.TouchedPenalties.{nothing_asked, elsewhere_same, map_twice}

-- the word's first two bits are the coded bits
first_is : (s u : ℕ) → bit (outer_word s u) 0 ≡ first_coded s u
first_is s u = omega arith

middle : (f g u : ℕ) → f < 2 → g < 2 → bit (f + 2 * g + 4 * u) 1 ≡ g
middle f g u l m = omega arith

second_is : (s u : ℕ) → bit (outer_word s u) 1 ≡ second_coded s u
second_is s u = middle (first_coded s u) (second_coded s u) u (mod_below (u + s / 2) 2 (omega arith)) (mod_below (u + s % 2 + s / 2) 2 (omega arith))

-- an edge of the outer trellis by its cost
abbrev costing : ℕ → ℕ → Edge
costing i cost = record { from = i / 2; to = i % 2 + 2 * (i / 2 % 2); word = outer_word (i / 2) (i % 2); cost = cost }

module _ (priors : List ℤ) (k : ℕ) (x : ℤ) where
  -- a stage's cost pays for the coded bit that was told of
  cost_told : (b : ℕ) → b < 2 → 2 * k + b < length priors → (s u : ℕ)
      → outer_cost (set priors (2 * k + b) x) k s u ≡ outer_cost (set priors (2 * k + b) (pos 0)) k s u + penalty x (bit (outer_word s u) b)
  cost_told zero l long s u =
      let f = first_coded s u in
      let g = second_coded s u in
      let at : (z : ℤ) → penalty (get_or (set priors (2 * k + 0) z) (2 * k) (pos 0)) f ≡ penalty z f = λ z. ap (λ p. penalty (get_or (set priors p z) (2 * k) (pos 0)) f) (add-zero (2 * k)) ∙ ap (λ w. penalty w f) (get_or-set_same priors (2 * k) z (pos 0) (omega arith)) in
      let off = ap (λ w. penalty w g) (elsewhere_same priors (2 * k + 0) (2 * k + 1) x (pos 0) (λ q. omega arith)) in
      let w = ap (penalty x) (first_is s u) in
      omega (arith, at x, at (pos 0), nothing_asked f)
  cost_told (suc zero) l long s u =
      let f = first_coded s u in
      let g = second_coded s u in
      let at : (z : ℤ) → penalty (get_or (set priors (2 * k + 1) z) (2 * k + 1) (pos 0)) g ≡ penalty z g = λ z. ap (λ w. penalty w g) (get_or-set_same priors (2 * k + 1) z (pos 0) long) in
      let off = ap (λ w. penalty w f) (elsewhere_same priors (2 * k + 1) (2 * k) x (pos 0) (λ q. omega arith)) in
      let w = ap (penalty x) (second_is s u) in
      omega (arith, at x, at (pos 0), nothing_asked g)
  cost_told (suc (suc b)) l long s u = absurd (omega arith)

  cost_same : (b j : ℕ) → b < 2 → (j ≡ k → ⊥) → (s u : ℕ) → outer_cost (set priors (2 * k + b) x) j s u ≡ outer_cost (set priors (2 * k + b) (pos 0)) j s u
  cost_same b j l other s u =
      let p = ap (λ w. penalty w (first_coded s u)) (elsewhere_same priors (2 * k + b) (2 * j) x (pos 0) (λ q. other (omega arith))) in
      let q = ap (λ w. penalty w (second_coded s u)) (elsewhere_same priors (2 * k + b) (2 * j + 1) x (pos 0) (λ q. other (omega arith))) in
      omega arith

  told : (n b : ℕ) → b < 2 → 2 * k + b < length priors → Told k b x (outer n (set priors (2 * k + b) (pos 0))).edges (outer n (set priors (2 * k + b) x)).edges
  told n b l long = record {
    here = map_twice (outer_at (set priors (2 * k + b) x) k) (outer_at (set priors (2 * k + b) (pos 0)) k) (charged b x)
        (λ i. ap (costing i) (cost_told b l long (i / 2) (i % 2)))
        (range_with_len 0 8);
    elsewhere = λ j other. λ t. map (λ i. costing i (cost_same b j l other (i / 2) (i % 2) t)) (range_with_len 0 8);
  }

pub outer_leaves_prior_out : OuterLeavesPriorOut
outer_leaves_prior_out n priors some few long k b low here x y x_within y_within =
    let place : 2 * k + b < length priors = omega arith in
    let sizes : (1 ≤ n) × (n ≤ 16384) = (omega arith, few) in
    let base = set priors (2 * k + b) (pos 0) in
    let free : (z : ℤ) → Within511 z → Open 4 1022 3 n (λ s. eqb s 0) (λ s. eqb s 0) (outer n base).edges (outer_lawful n base sizes) k b low z (outer n (set priors (2 * k + b) z)).edges =
    λ z within. record {
      lawful = outer_lawful n (set priors (2 * k + b) z) sizes;
      told = told priors k z n b here place;
      within = within;
      zero_free = coded_free n (set priors (2 * k + b) z) some few k b 0 low here (omega arith);
      one_free = coded_free n (set priors (2 * k + b) z) some few k b 1 low here (omega arith);
    } in
    left_out 4 1022 3 n (λ s. eqb s 0) (λ s. eqb s 0) (outer n base).edges (outer_lawful n base sizes) k b low x y
    (outer n (set priors (2 * k + b) x)).edges (outer n (set priors (2 * k + b) y)).edges (free x x_within) (free y y_within)
