-- The least costs with a bit 0 and 1 lie near each other, and numbers modulo 65,536 give their difference.
use Rattle.std.proofs.Common.{ℕ, ◌+◌, ◌*◌, ◌<◌, length, subst, arith}
use Rattle.paths.specs.Trellises.{Meaning, Lawful}
use Rattle.paths.specs.Paths.{path_join, paths_with}
use Rattle.paths.specs.Joins.{Joins, edges_with}
use Rattle.paths.specs.Least.{least, FineCost}
use Rattle.paths.specs.LeastLaws.{least_laws}
use Rattle.paths.proofs.BitJoins.{bits_are_joins, edges_with_low}
use Rattle.modulo.specs.Modulo.{modulo}
use Rattle.modulo.specs.Spread.{Served, Near, BitsNear, BitsFit, BitsStand}
use Rattle.modulo.proofs.Windows.{Within, StandsWithin, window_near, reliability_within}
use Rattle.modulo.proofs.Finite.{joins_exist}
use Rattle.modulo.proofs.Margins.{joins_window, joins_within}
use Rattle.modulo.proofs.Candidates.{least_candidate, modulo_candidate, start, candidate_fits, candidate_window, candidate_within}

-- the least cost over the paths on which bit b of stage k's word is v
abbrev pub bit_cost : ℕ → Meaning → ℕ → ℕ → ℕ → ℕ
bit_cost states m k b v = path_join least (paths_with states m k b v)

-- it lies in every window that has all candidates
cost_window : (states ceiling bits : ℕ) (m : Meaning) → Lawful states ceiling bits m → (k b v : ℕ) → k < m.stages → (lo d : ℕ)
    → ((i : ℕ) → Within lo d (least_candidate states m k i)) → Within lo d (bit_cost states m k b v)
cost_window states ceiling bits m lawful k b v within lo d h =
    let j = joins_exist least (least_candidate states m k) (length (m.edges k)) (edges_with (m.edges k) b v) (edges_with_low (m.edges k) b v) in
    let is = bits_are_joins {fine = FineCost} least_laws states ceiling bits m lawful k b v within j.0 j.1 in
    subst (Within lo d) is (joins_window lo d (least_candidate states m k) (λ i p. h i) j.1)

-- two costs of one window
both_near : (lo d x y : ℕ) → Within lo d x → Within lo d y → Near d x y
both_near lo d x y h k = record {
  zero_near = λ a b. let q = window_near lo d x y h k a b in omega arith;
  one_near = λ a b. let q = window_near lo d y x k h b a in omega arith;
}

pub bits_near : BitsNear
bits_near states ceiling bits reach m h k b within =
    let lo = start states m k in
    let d = (2 * reach + 1) * ceiling in
    let all = candidate_window states ceiling bits reach m h k within in
    both_near lo d _ _ (cost_window states ceiling bits m h.lawful k b 0 within lo d all) (cost_window states ceiling bits m h.lawful k b 1 within lo d all)

pub bits_fit : BitsFit
bits_fit states ceiling bits m lawful low k b within =
    let all = candidate_fits states ceiling bits m lawful (omega arith) k within in
    both_near 0 2147483647 _ _ (cost_window states ceiling bits m lawful k b 0 within 0 2147483647 all) (cost_window states ceiling bits m lawful k b 1 within 0 2147483647 all)

-- what is joined of the candidates modulo 65,536 stands for the least cost
pub bit_within : (states ceiling bits reach : ℕ) (m : Meaning) → Served states ceiling bits reach m → (k b v : ℕ) → k < m.stages → (y : ℕ)
    → Joins modulo (modulo_candidate states m k) (edges_with (m.edges k) b v) y → StandsWithin (start states m k) ((2 * reach + 1) * ceiling) (bit_cost states m k b v) y
bit_within states ceiling bits reach m h k b v within y joins =
    let lo = start states m k in
    let d = (2 * reach + 1) * ceiling in
    let j = joins_within lo d h.modest (least_candidate states m k) (modulo_candidate states m k) (λ i p. candidate_within states ceiling bits reach m h k within i) joins in
    let is = bits_are_joins {fine = FineCost} least_laws states ceiling bits m h.connected.lawful k b v within j.0 j.1 in
    subst (λ x. StandsWithin lo d x y) is j.2

pub bits_stand : BitsStand
bits_stand states ceiling bits reach m h k b within x y zero one =
    reliability_within (start states m k) ((2 * reach + 1) * ceiling) _ x _ y h.modest
    (bit_within states ceiling bits reach m h k b 0 within x zero) (bit_within states ceiling bits reach m h k b 1 within y one)
