-- Costs that lie near each other give a small reliability.
use Rattle.std.proofs.Common.{◌≡◌, ℕ, ◌<◌, ◌≤◌, Bool, true, false, cond, eqb, ℤ, pos, ◌-ℤ◌, neg_ℤ, ◌≤ℤ◌, Some, None, Option, refl, arith}
use Rattle.std.proofs.lemmas.Int.{ints}
use Rattle.std.proofs.lemmas.Bool.{eqb-false}
use Rattle.paths.specs.Least.{top}
use Rattle.modulo.specs.Modulo.{reliability}
use Rattle.modulo.specs.Spread.{Near}
use Rattle.reliabilities.specs.Bounds.{Bounded}

-- the bit may be forced to either side
bounded_cond : (d z o : ℕ) (p q : Bool) → (p ≡ false → q ≡ false → (neg_ℤ (pos d) ≤ℤ (pos z -ℤ pos o)) × ((pos z -ℤ pos o) ≤ℤ pos d))
    → Bounded d (cond p None (cond q None (Some (pos z -ℤ pos o))))
bounded_cond d z o true q h = tt
bounded_cond d z o false true h = tt
bounded_cond d z o false false h = h refl refl

pub near_bounded : (d z o : ℕ) → z ≤ top → o ≤ top → Near d z o → Bounded d (reliability z o)
unfolding reliability
near_bounded d z o low small near =
    bounded_cond d z o (eqb z top) (eqb o top)
    (λ e q.
    let z≠ = eqb-false z top e in
    let o≠ = eqb-false o top q in
    let a : z < top = grind arith in
    let b : o < top = grind arith in
    let x = near.zero_near a b in
    let y = near.one_near a b in
    (omega (arith, ints), omega (arith, ints)))

-- a wider bound holds too
pub wider : (d e : ℕ) → d ≤ e → (r : Option ℤ) → Bounded d r → Bounded e r
wider d e h None k = tt
wider d e h (Some r) k = let a = k.0 in let b = k.1 in (omega (arith, ints), omega (arith, ints))
