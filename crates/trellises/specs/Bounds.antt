-- How large penalties and accumulated bits are.
use Rattle.std.specs.Prelude.{ℕ, zero, suc, ◌+◌, ◌*◌, ◌^◌, ◌<◌, ◌≤◌, List, ℤ, pos, negsuc, slice_index_or}
use Rattle.std.proofs.Common.{arith}
use Rattle.std.proofs.Math.Nat.{pow-le-pow_right}
use Rattle.std.proofs.lemmas.Nat.{mod_below}
use Rattle.trellises.specs.Priors.{bit, penalty, penalties}
use Rattle.trellises.specs.Inner.{accumulated}

pub penalty_low : (z : ℤ) (b : ℕ) → penalty z b ≤ 511
penalty_low (pos n) zero = omega arith
penalty_low (negsuc n) zero = omega arith
penalty_low (pos n) (suc b) = omega arith
penalty_low (negsuc n) (suc b) = omega arith

pub penalties_low : (priors : List ℤ) (at word n : ℕ) → penalties priors at word n ≤ 511 * n
penalties_low priors at word zero = omega arith
penalties_low priors at word (suc j) =
    let one = penalty_low (slice_index_or priors (at + j) (pos 0)) (bit word j) in
    let rest = penalties_low priors at word j in
    omega arith

pub accumulated_low : (from word j : ℕ) → from < 2 → accumulated from word j < 2
accumulated_low from word zero h = h
accumulated_low from word (suc j) h = mod_below _ 2 (omega arith)

pub few_words : (m : ℕ) → m ≤ 8 → 2 ^ m ≤ 256
few_words m h = pow-le-pow_right {n = 2} (omega arith) {i = m} {j = 8} h
