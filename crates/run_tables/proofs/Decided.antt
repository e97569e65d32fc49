-- Decided bits, one more at a time.
use Rattle.std.proofs.Common.{◌≡◌, ℕ, ◌+◌, ◌*◌, ◌^◌, ◌<◌, ◌≤◌, false, List, [], ◌∷◌, ◌++◌, map, take, drop, get_or-take, get_or-drop, sym, refl, ap, ◌∙◌, arith}
use native.Mathlib.Nat.{pow-le-pow_right}
use Rattle.std.specs.List.{range_with_len}
use Rattle.std.proofs.lemmas.List.FromFn.{map-range_with_len_more, length-map-range_with_len, get_or-map-range_with_len, fill_by_all}
use Rattle.polynomial.specs.Polynomials.{value, bit}
use Rattle.polynomial.proofs.Binary.{value_lt}
use Rattle.polynomial.proofs.OneMore.{doubled}
use Rattle.run_model.specs.Model.{decided_bit, decided_bits}

pub bits_more : (d : List ℕ) (n : ℕ) → decided_bits (n + 1) d ≡ decided_bits n d ++ decided_bit d n ∷ []
bits_more d n = map-range_with_len_more (decided_bit d) 0 n n (omega arith)

-- the number of n decided bits, and of one more
pub number_more : (d : List ℕ) (n : ℕ) → value (decided_bits (n + 1) d) ≡ 2 * value (decided_bits n d) + bit (decided_bit d n)
number_more d n = ap value (bits_more d n) ∙ doubled (decided_bits n d) (decided_bit d n)

pub number_low : (d : List ℕ) (n : ℕ) → n ≤ 8 → value (decided_bits n d) < 256
number_low d n h =
    let l = length-map-range_with_len (decided_bit d) 0 n in
    let v = value_lt (decided_bits n d) in
    let p : 2 ^ n ≤ 2 ^ 8 = pow-le-pow_right {n = 2} (omega arith) {i = n} {j = 8} h in
    let e = ap (λ (k : ℕ). 2 ^ k) l in
    omega arith

-- the decided bits of a part
pub of_part : (d : List ℕ) (at n : ℕ) → decided_bits n (take n (drop at d)) ≡ map (decided_bit d) (range_with_len at n)
of_part d at n =
    sym (fill_by_all (decided_bit (take n (drop at d))) (map (decided_bit d) (range_with_len at n)) n false (length-map-range_with_len (decided_bit d) at n)
    (λ k h. get_or-map-range_with_len (decided_bit d) at n k (at + k) false h refl ∙ sym (rw (get_or-take, get_or-drop) refl)))
