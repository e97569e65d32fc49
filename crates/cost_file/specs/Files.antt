-- A whole cost file: what is written of its contents, the faults that reading finds, and the contents that it holds.
use Rattle.std.specs.Prelude.{◌≡◌, ℕ, zero, suc, ◌+◌, ◌*◌, Bool, true, cond, ◌&&◌, ◌||◌, List, [], ◌∷◌, ◌++◌, length, take, drop, Some, None, Option, ◌==◌, nat_le, slice_index}
use Rattle.std.specs.List.{range_with_len, flat_map}
use Rattle.plans.specs.declared.values.PlanValues.{PlanValues}
use Rattle.plans.specs.declared.refusals.Refusal.{Refusal}
use Rattle.plans.specs.declared.refusals.Refusal.TheVariants.{PayloadBytes, Room, Lengths, FileLength, RecordHead, LengthDue}
use Rattle.plans.specs.Plans.{symbols, slots, plan_refusal}
use Rattle.cost_file.specs.declared.faults.Layer.TheVariants.{File, Plan, Contents}
use Rattle.cost_file.specs.declared.faults.Fault.{Fault}
use Rattle.plans.specs.Refusals.{unless, first_of}
use Rattle.cost_file.specs.Records.{bytes_of, packed, fault, record_fault}

-- what a cost file keeps: the plan, the slot costs of all symbols one after another, and the payload if it was stored
pub record Kept : Type 0 where
  pub plan : PlanValues
  pub rows : List ℕ
  pub payload : Option (List ℕ)

-- payload bytes in two bytes, bits per symbol, a zero, and the interleaver's factors in two bytes each
abbrev pub plan_body : PlanValues → List ℕ
plan_body v = bytes_of 2 v.bytes ++ (v.bits ∷ 0 ∷ []) ++ bytes_of 2 v.a ++ bytes_of 2 v.b

-- the costs of symbol k
abbrev pub row : PlanValues → List ℕ → ℕ → List ℕ
row v rows k = take (slots v) (drop (k * slots v) rows)

-- the records of n rows from row k on
abbrev pub rows_written : PlanValues → List ℕ → ℕ → ℕ → List ℕ
rows_written v rows k n = flat_map (λ i. packed 2 (i + 1) (row v rows i)) (range_with_len k n)

abbrev pub payload_written : ℕ → Option (List ℕ) → List ℕ
payload_written number None = []
payload_written number (Some payload) = packed 3 number payload

-- the file of what is kept
unfoldable pub written : Kept → List ℕ
written c = packed 1 0 (plan_body c.plan) ++ (rows_written c.plan c.rows 0 (symbols c.plan) ++ payload_written (symbols c.plan + 1) c.payload)

-- where the record of row k begins, and so how long a file of n rows and no payload is
abbrev pub row_at : PlanValues → ℕ → ℕ
row_at v k = 16 + k * (slots v + 8)

-- the length of a file that has no payload
abbrev pub rows_end : PlanValues → ℕ
rows_end v = row_at v (symbols v)

-- the plan in a file's first record
unfoldable pub plan_in : List ℕ → PlanValues
plan_in f = record { bytes = 256 * slice_index f 4 + slice_index f 5; bits = slice_index f 6; a = 256 * slice_index f 8 + slice_index f 9; b = 256 * slice_index f 10 + slice_index f 11 }

-- the questions of a plan, with a limit of one's own on the payload bytes
abbrev pub refusal_within : ℕ → PlanValues → Option Refusal
refusal_within most v = cond (nat_le v.bytes most) (plan_refusal v) (Some PayloadBytes)

abbrev pub at_layer_two : Option Refusal → Option Fault
at_layer_two None = None
at_layer_two (Some refusal) = Some (fault refusal 0 Plan)

abbrev pub length_fault : List ℕ → Option Fault
length_fault f = unless (nat_le 16 (length f) && nat_le (length f) 600000) (fault FileLength 0 File)

-- the plan's record, and then the spare byte in its body
abbrev pub plan_record_fault : List ℕ → Option Fault
plan_record_fault f = first_of (record_fault 1 0 (take 16 f)) (unless (slice_index f 7 == 0) (fault RecordHead 0 File))

abbrev pub due_fault : PlanValues → List ℕ → Option Fault
due_fault v f = unless (length f == rows_end v || length f == rows_end v + v.bytes + 8) (fault LengthDue 0 Contents)

-- the first fault among the records of n rows from row k on
abbrev pub rows_fault : PlanValues → List ℕ → ℕ → ℕ → Option Fault
rows_fault v f k zero = None
rows_fault v f k (suc n) = first_of (record_fault 2 (k + 1) (take (slots v + 8) (drop (row_at v k) f))) (rows_fault v f (k + 1) n)

abbrev pub payload_fault : PlanValues → List ℕ → Option Fault
payload_fault v f = cond (length f == rows_end v) None (record_fault 3 (symbols v + 1) (drop (rows_end v) f))

-- what is asked once the plan is known
abbrev pub later_fault : ℕ → PlanValues → List ℕ → Option Fault
later_fault most v f =
    first_of (at_layer_two (refusal_within most v)) (first_of (due_fault v f) (first_of (rows_fault v f 0 (symbols v)) (payload_fault v f)))

-- the first fault of a file whose payload may have up to `most` bytes
unfoldable pub file_fault : ℕ → List ℕ → Option Fault
file_fault most f = first_of (length_fault f) (first_of (plan_record_fault f) (later_fault most (plan_in f) f))

-- what stands of every opened file, whatever was read of it: it is accepted, and the plan beside it is its own
pub record Whole (f : List ℕ) (v : PlanValues) : Type 0 where
  pub accepted : file_fault 1021 f ≡ None
  pub values : v ≡ plan_in f

-- the bodies of n rows from row k on
abbrev pub rows_in : PlanValues → List ℕ → ℕ → ℕ → List ℕ
rows_in v f k n = flat_map (λ i. take (slots v) (drop (row_at v i + 4) f)) (range_with_len k n)

abbrev pub payload_in : PlanValues → List ℕ → Option (List ℕ)
payload_in v f = cond (length f == rows_end v) None (Some (take v.bytes (drop (rows_end v + 4) f)))

-- what a file keeps
unfoldable pub kept_in : List ℕ → Kept
kept_in f = record { plan = plan_in f; rows = rows_in (plan_in f) f 0 (symbols (plan_in f)); payload = payload_in (plan_in f) f }

-- whether payload and rows have their lengths
abbrev pub payload_fits : ℕ → Option (List ℕ) → Bool
payload_fits n None = true
payload_fits n (Some payload) = length payload == n

abbrev pub lengths_fit : Kept → Bool
lengths_fit c = length c.rows == symbols c.plan * slots c.plan && payload_fits c.plan.bytes c.payload

-- the first question of the writer answered no, where its output has `room` bytes
unfoldable pub write_refusal : Kept → ℕ → Option Refusal
write_refusal c room =
    first_of (plan_refusal c.plan) (first_of (unless (lengths_fit c) Lengths) (unless (nat_le (length (written c)) room) Room))
