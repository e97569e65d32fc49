-- One record of a cost file: head, body and check.
use Rattle.std.specs.Prelude.{ℕ, zero, suc, ◌-◌, ◌/◌, ◌%◌, ◌^◌, List, [], ◌∷◌, ◌++◌, length, take, drop, Option}
use Rattle.std.specs.Str.{bytes_eq}
use Rattle.plans.specs.declared.refusals.Refusal.{Refusal}
use Rattle.plans.specs.declared.refusals.Refusal.TheVariants.{RecordCheck, RecordHead}
use Rattle.plans.specs.Refusals.{unless, first_of}
use Rattle.polynomial.specs.Bytes.{check_of}
use Rattle.cost_file.specs.declared.faults.Layer.{Layer}
use Rattle.cost_file.specs.declared.faults.Layer.TheVariants.{File, Plan, Contents}
use Rattle.cost_file.specs.declared.faults.Fault.{Fault}
use Rattle.cost_file.specs.declared.records.Kind.{Kind}
use Rattle.cost_file.specs.declared.records.Kind.TheVariants as kinds

-- the number of each layer
abbrev pub layer_of : Layer → ℕ
layer_of File = 1
layer_of Plan = 2
layer_of Contents = 3

-- the number of each kind of record
abbrev pub kind_of : Kind → ℕ
kind_of kinds.Plan = 1
kind_of kinds.Row = 2
kind_of kinds.Payload = 3

-- a number in n bytes, the most significant first
abbrev pub bytes_of : ℕ → ℕ → List ℕ
bytes_of zero x = []
bytes_of (suc n) x = x / 256 ^ n % 256 ∷ bytes_of n x

-- kind, zero, and the record's number in two bytes
abbrev pub head_of : ℕ → ℕ → List ℕ
head_of kind number = kind ∷ 0 ∷ bytes_of 2 number

-- head, body, and the check of both in four bytes
unfoldable pub packed : ℕ → ℕ → List ℕ → List ℕ
packed kind number body = (head_of kind number ++ body) ++ bytes_of 4 (check_of (head_of kind number ++ body))

abbrev pub fault : Refusal → ℕ → Layer → Fault
fault refusal number layer = record { refusal = refusal; «record» = number; layer = layer }

-- what is wrong with the bytes of a record whose kind and number are due: first its check, then its head
unfoldable pub record_fault : ℕ → ℕ → List ℕ → Option Fault
record_fault kind number r =
    first_of (unless (bytes_eq (drop (length r - 4) r) (bytes_of 4 (check_of (take (length r - 4) r)))) (fault RecordCheck number File))
    (unless (bytes_eq (take 4 r) (head_of kind number)) (fault RecordHead number File))
