-- The slots of a block tell its payload: each step of the encoder is undone in turn.
use Rattle.std.proofs.Common.{◌≡◌, ℕ, zero, suc, ◌+◌, ◌-◌, ◌*◌, ◌/◌, ◌%◌, ◌<◌, ◌≤◌, Bool, true, false, List, ◌++◌, map, length, get_or, sym, refl, ap, ◌∙◌, ⊎_elim, mod-lt, arith}
use Rattle.std.specs.List.{range_with_len}
use Rattle.std.proofs.lemmas.Nat.{div_below, div-add-mod'}
use Rattle.std.proofs.lemmas.List.FromFn.{get_or-map-range_with_len, length-map-range_with_len}
use Rattle.std.proofs.lemmas.List.{ext_get_or, get_or_append_left}
use Rattle.std.proofs.lemmas.Bool.{cases_lt, le-leb, lt-leb}
use Rattle.plans.specs.declared.values.PlanValues.{PlanValues}
use Rattle.plans.specs.Permutations.{Permutation}
use Rattle.plans.specs.Plans.{stages, coded, symbols, interleaver}
use Rattle.polynomial.specs.Polynomials.{xor, zeros, remainder, value}
use Rattle.polynomial.specs.Bytes.{bits, digits}
use Rattle.polynomial.proofs.Binary.{digits_value}
use Rattle.polynomial.proofs.Bitwise.{length_bits, bits_apart}
use Rattle.encoder.specs.Encoding.{data_bits, earlier, even_bit, coded_bit, interleaved_bit, held_before, accumulated_bit, slot, encoded}
use Rattle.encoder.specs.Promises.{AllBytes, OnlyPayload}

xor_cancel : (x y z : Bool) → xor x z ≡ xor y z → x ≡ y
xor_cancel true true z h = refl
xor_cancel false false z h = refl
xor_cancel true false true h = sym h
xor_cancel true false false h = h
xor_cancel false true true h = sym h
xor_cancel false true false h = h

value_apart : (xs ys : List Bool) → length xs ≡ length ys → value xs ≡ value ys → xs ≡ ys
value_apart xs ys l e = sym (digits_value xs) ∙ ap (λ n. digits n (value xs)) l ∙ ap (digits (length ys)) e ∙ digits_value ys

-- two blocks of one plan with the same slots, by their data bits
module _ (v : PlanValues) (u w : List Bool) (some : 0 < v.bits) (whole : symbols v * v.bits ≡ coded v) where
  same_accumulated : ((k : ℕ) → k < symbols v → slot v u k ≡ slot v w k) → (j : ℕ) → j < coded v → accumulated_bit v u j ≡ accumulated_bit v w j
  unfolding slot
  same_accumulated h j l =
      let m = v.bits in
      let k = j / m in
      let i = j % m in
      let low : i < m = mod-lt j some in
      let place : k * m + i ≡ j = div-add-mod' j m in
      let inside : k < symbols v = div_below j m (symbols v) some (omega arith) in
      let same = value_apart (map (accumulated_bit v u) (range_with_len (k * m) m)) (map (accumulated_bit v w) (range_with_len (k * m) m)) (length-map-range_with_len (accumulated_bit v u) (k * m) m ∙ sym (length-map-range_with_len (accumulated_bit v w) (k * m) m)) (h k inside) in
      sym (get_or-map-range_with_len (accumulated_bit v u) (k * m) m i j false low place) ∙ ap (λ (xs : List Bool). get_or xs i false) same ∙ get_or-map-range_with_len (accumulated_bit v w) (k * m) m i j false low place

  same_held : ((j : ℕ) → j < coded v → accumulated_bit v u j ≡ accumulated_bit v w j) → (j : ℕ) → j ≤ coded v → held_before (interleaved_bit v u) j ≡ held_before (interleaved_bit v w) j
  same_held h zero l = refl
  same_held h (suc j) l = h j l

  same_interleaved : ((j : ℕ) → j < coded v → accumulated_bit v u j ≡ accumulated_bit v w j) → (j : ℕ) → j < coded v → interleaved_bit v u j ≡ interleaved_bit v w j
  same_interleaved h j l =
      let before = same_held h j (omega arith) in
      xor_cancel (interleaved_bit v u j) (interleaved_bit v w j) (held_before (interleaved_bit v w) j) (ap (xor (interleaved_bit v u j)) (sym before) ∙ h j l)

  same_coded : Permutation (coded v) (interleaver v) → ((j : ℕ) → j < coded v → interleaved_bit v u j ≡ interleaved_bit v w j) → (i : ℕ) → i < coded v → coded_bit u i ≡ coded_bit w i
  same_coded p h i l =
      let from = p.onto i l in
      ap (coded_bit u) (sym from.2) ∙ h from.0 from.1 ∙ ap (coded_bit w) from.2

  even_coded : (x : List Bool) (k : ℕ) → coded_bit x (2 * k) ≡ even_bit x k
  unfolding coded_bit
  even_coded x k =
      let r : (2 * k) % 2 ≡ 0 = omega arith in
      let q : (2 * k) / 2 ≡ k = omega arith in
      rw (r, q) refl

  -- a data bit follows from its coded bit and the data bit two stages before
  same_data : ((i : ℕ) → i < coded v → coded_bit u i ≡ coded_bit w i) → (n k : ℕ) → k < n → k < stages v → get_or u k false ≡ get_or w k false
  same_data h zero k l s = absurd (omega arith)
  same_data h (suc n) k l s =
      let e : even_bit u k ≡ even_bit w k = sym (even_coded u k) ∙ h (2 * k) (omega arith) ∙ even_coded w k in
      let back : earlier u k 2 ≡ earlier w k 2 = ⊎_elim
      (λ few. rw (lt-leb 2 k few) refl)
      (λ many. rw (le-leb 2 k many) (same_data h n (k - 2) (omega arith) (omega arith)))
      (cases_lt k 2) in
      xor_cancel (get_or u k false) (get_or w k false) (earlier w k 2) (ap (xor (get_or u k false)) (sym back) ∙ e)

payload_bit : (x : List ℕ) (k : ℕ) → k < 8 * length x → get_or (data_bits x) k false ≡ get_or (bits x) k false
unfolding data_bits
payload_bit x k l = get_or_append_left (bits x) (remainder (bits x ++ zeros 22) ++ zeros 2) false k (rw (length_bits x) l)

pub only_payload : (v : PlanValues) (payload : List ℕ) → 0 < v.bits → symbols v * v.bits ≡ coded v → Permutation (coded v) (interleaver v) → AllBytes payload → length payload ≡ v.bytes → OnlyPayload v payload
unfolding encoded
only_payload v payload some whole perm good long other fine size same =
    let u = data_bits other in
    let w = data_bits payload in
    let slots_same : (k : ℕ) → k < symbols v → slot v u k ≡ slot v w k = λ k l.
    sym (get_or-map-range_with_len (slot v u) 0 (symbols v) k k 0 l (omega arith)) ∙ ap (λ (xs : List ℕ). get_or xs k 0) same ∙ get_or-map-range_with_len (slot v w) 0 (symbols v) k k 0 l (omega arith) in
    let data_same : (k : ℕ) → k < stages v → get_or u k false ≡ get_or w k false = λ k l.
    same_data v u w some whole (same_coded v u w some whole perm (same_interleaved v u w some whole (same_accumulated v u w some whole slots_same))) (suc k) k (omega arith) l in
    let lengths : length (bits other) ≡ length (bits payload) = length_bits other ∙ ap (λ n. 8 * n) (size ∙ sym long) ∙ sym (length_bits payload) in
    let bits_same : bits other ≡ bits payload = ext_get_or false (bits other) (bits payload) lengths
    (λ k l.
    let lo : k < 8 * length other = rw (length_bits other) at l in
    let lp : k < 8 * length payload = omega arith in
    sym (payload_bit other k lo) ∙ data_same k (omega arith) ∙ payload_bit payload k lp) in
    bits_apart other payload fine good (size ∙ sym long) bits_same
