-- The way of a payload to its slots: check bits, outer code, interleaver, accumulator, symbols.
use Rattle.std.specs.Prelude.{ℕ, zero, suc, ◌-◌, ◌*◌, ◌/◌, ◌%◌, Bool, false, cond, List, ◌++◌, map, Option, ◌==◌, nat_le, slice_index_or}
use Rattle.std.specs.List.{range_with_len}
use Rattle.plans.specs.declared.values.PlanValues.{PlanValues}
use Rattle.plans.specs.declared.refusals.Refusal.{Refusal}
use Rattle.plans.specs.declared.refusals.Refusal.TheVariants.{Room, Lengths}
use Rattle.plans.specs.Refusals.{unless, first_of}
use Rattle.plans.specs.Plans.{symbols, interleaver, plan_refusal}
use Rattle.polynomial.specs.Polynomials.{xor, zeros, remainder, value}
use Rattle.polynomial.specs.Bytes.{bits}

-- one bit a stage: the payload, the remainder of its polynomial times z^22, and two zeros that close the outer code
unfoldable pub data_bits : List ℕ → List Bool
data_bits payload = bits payload ++ (remainder (bits payload ++ zeros 22) ++ zeros 2)

-- the data bit `back` stages before stage k, zero before the first
abbrev pub earlier : List Bool → ℕ → ℕ → Bool
earlier u k back = cond (nat_le back k) (slice_index_or u (k - back) false) false

-- the outer code: bit 2k is u_k + u_(k-2), and bit 2k+1 is u_k + u_(k-1) + u_(k-2)
abbrev pub even_bit : List Bool → ℕ → Bool
even_bit u k = xor (slice_index_or u k false) (earlier u k 2)

abbrev pub odd_bit : List Bool → ℕ → Bool
odd_bit u k = xor (xor (slice_index_or u k false) (earlier u k 1)) (earlier u k 2)

unfoldable pub coded_bit : List Bool → ℕ → Bool
coded_bit u i = cond (i % 2 == 0) (even_bit u (i / 2)) (odd_bit u (i / 2))

-- the interleaver takes coded bit f(j) to place j
abbrev pub interleaved_bit : PlanValues → List Bool → ℕ → Bool
interleaved_bit v u j = coded_bit u (interleaver v j)

-- the accumulator: what it holds before bit j is the sum of all bits before it
abbrev pub held_before : (ℕ → Bool) → ℕ → Bool
held_before w zero = false
held_before w (suc j) = xor (w j) (held_before w j)

-- accumulated bit j is bit j plus accumulated bit j-1
abbrev pub accumulated_bit : PlanValues → List Bool → ℕ → Bool
accumulated_bit v u j = held_before (interleaved_bit v u) (suc j)

-- a symbol's accumulated bits, the first most significant, are the number of its slot
unfoldable pub slot : PlanValues → List Bool → ℕ → ℕ
slot v u k = value (map (accumulated_bit v u) (range_with_len (k * v.bits) v.bits))

-- the slots of a block
unfoldable pub encoded : PlanValues → List ℕ → List ℕ
encoded v payload = map (slot v (data_bits payload)) (range_with_len 0 (symbols v))

-- the first question of the encoder answered no, where the payload has `len` bytes and the output `room`
unfoldable pub encode_refusal : PlanValues → ℕ → ℕ → Option Refusal
encode_refusal v len room =
    first_of (plan_refusal v) (first_of (unless (len == v.bytes) Lengths) (unless (nat_le (symbols v) room) Room))
