-- The inner trellis, told one prior, has its stage's edges charged by it, so nothing told comes back.
use Rattle.std.proofs.Common.{◌≡◌, ℕ, ◌+◌, ◌*◌, ◌/◌, ◌%◌, ◌^◌, ◌<◌, min, eqb, ltb, List, map, length, get_or, set, ℤ, pos, sym, ap, ◌∙◌, arith}
use Rattle.std.specs.List.{range_with_len}
use Rattle.std.proofs.lemmas.Nat.{mul-add-lt, div-mul-add}
use Rattle.paths.specs.declared.edges.Edge.{Edge}
use Rattle.trellises.specs.Priors.{bit, penalty, penalties}
use Rattle.trellises.specs.Inner.{accumulated, slot_of, inner, inner_at}
use Rattle.trellises.specs.InnerLaws.{inner_lawful}
use Rattle.trellises.proofs.InnerFree.{interleaved_free}
use Rattle.extrinsics.specs.Extrinsics.{Within511, InnerLeavesPriorOut}
use Rattle.extrinsics.proofs.Charged.{charged, Told}
use Rattle.extrinsics.proofs.Sent.{Open, left_out}
use Rattle.extrinsics.proofs.TouchedPenalties.{penalties_same, penalties_told, map_twice}

-- an edge of the inner trellis by what its bits' priors ask of it
abbrev asked : ℕ → List ℕ → ℕ → ℕ → ℕ → Edge
asked m rows k i sum = record {
  from = i / 2 ^ m;
  to = accumulated (i / 2 ^ m) (i % 2 ^ m) m;
  word = i % 2 ^ m;
  cost = min (get_or rows (k * 2 ^ m + slot_of (i / 2 ^ m) (i % 2 ^ m) m) 0) 255 + sum;
}

module _ (m n : ℕ) (rows : List ℕ) (priors : List ℤ) (k b : ℕ) (here : b < m) (long : k * m + b < length priors) where
  -- the places of a stage's bits are its own
  apart : (j i : ℕ) → (j ≡ k → ⊥) → i < m → j * m + i ≡ k * m + b → ⊥
  apart j i other l e = other (sym (div-mul-add j m i l) ∙ ap (λ z. z / m) e ∙ div-mul-add k m b here)

  told : (x : ℤ) → Told k b x (inner m n rows (set priors (k * m + b) (pos 0))).edges (inner m n rows (set priors (k * m + b) x)).edges
  told x = record {
    here = map_twice (inner_at m rows (set priors (k * m + b) x) k) (inner_at m rows (set priors (k * m + b) (pos 0)) k) (charged b x)
        (λ i.
        let sum = penalties (set priors (k * m + b) (pos 0)) (k * m) (i % 2 ^ m) m in
        let cost = min (get_or rows (k * 2 ^ m + slot_of (i / 2 ^ m) (i % 2 ^ m) m) 0) 255 in
        ap (asked m rows k i) (penalties_told priors (k * m) b (i % 2 ^ m) m x here long)
        ∙ ap (λ c. record { from = i / 2 ^ m; to = accumulated (i / 2 ^ m) (i % 2 ^ m) m; word = i % 2 ^ m; cost = c })
        (let e : cost + (sum + penalty x (bit (i % 2 ^ m) b)) ≡ cost + sum + penalty x (bit (i % 2 ^ m) b) = omega arith in e))
        (range_with_len 0 (2 * 2 ^ m));
    elsewhere = λ j other. λ t. map (λ i. asked m rows j i (penalties_same priors (k * m + b) (j * m) (i % 2 ^ m) m x (pos 0) (λ l u. apart j l other u) t)) (range_with_len 0 (2 * 2 ^ m));
  }

pub inner_leaves_prior_out : InnerLeavesPriorOut
inner_leaves_prior_out m n rows priors sizes long k b low here x y x_within y_within =
    let place : k * m + b < length priors = omega (arith, mul-add-lt k m b n low here) in
    let base = set priors (k * m + b) (pos 0) in
    let free : (z : ℤ) → Within511 z → Open 2 4343 m n (λ s. eqb s 0) (λ s. ltb s 2) (inner m n rows base).edges (inner_lawful m n rows base sizes) k b low z (inner m n rows (set priors (k * m + b) z)).edges =
    λ z within. record {
      lawful = inner_lawful m n rows (set priors (k * m + b) z) sizes;
      told = told m n rows priors k b here place z;
      within = within;
      zero_free = interleaved_free m n rows (set priors (k * m + b) z) sizes k b 0 low here (omega arith);
      one_free = interleaved_free m n rows (set priors (k * m + b) z) sizes k b 1 low here (omega arith);
    } in
    left_out 2 4343 m n (λ s. eqb s 0) (λ s. ltb s 2) (inner m n rows base).edges (inner_lawful m n rows base sizes) k b low x y
    (inner m n rows (set priors (k * m + b) x)).edges (inner m n rows (set priors (k * m + b) y)).edges (free x x_within) (free y y_within)
