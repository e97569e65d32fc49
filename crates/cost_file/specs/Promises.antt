-- What the writer and the reader promise of each other.
use Rattle.std.specs.Prelude.{◌≡◌, ℕ, ◌+◌, ◌-◌, ◌<◌, ◌≤◌, true, cond, ◌&&◌, List, length, take, drop, is_some, Some, None, Ok, Err, Option, Result, ◌==◌, nat_le, nat_lt}
use Rattle.std.specs.Borrow.{Bor}
use Rattle.std.specs.Option.{option_map}
use Rattle.plans.specs.declared.values.PlanValues.{PlanValues}
use Rattle.plans.specs.declared.refusals.Refusal.{Refusal}
use Rattle.plans.specs.Plans.{symbols, plan_refusal}
use Rattle.cost_file.specs.declared.reader.CostFile.{CostFile}
use Rattle.cost_file.specs.declared.records.Record.{Record}
use Rattle.cost_file.specs.declared.records.Record.TheVariants.{Plan, Row, Payload}
use Rattle.cost_file.specs.Files.{Kept, written, plan_in, kept_in, file_fault, write_refusal, lengths_fit, row_at, rows_end, row}

-- what a call is handed to keep
abbrev pub kept : PlanValues → List ℕ → Option (Bor (List ℕ)) → Kept
kept plan rows payload = record { plan = plan; rows = rows; payload = option_map (λ x. x.now) payload }

-- a plan that is accepted, and a payload and rows of their lengths
pub record Proper (c : Kept) : Type 0 where
  pub plan : plan_refusal c.plan ≡ None
  pub lengths : lengths_fit c ≡ true

-- what was written reads back to its contents
pub record ReadsBack (c : Kept) (f : List ℕ) : Type 0 where
  pub accepted : file_fault 1021 f ≡ None
  pub back : kept_in f ≡ c

-- the file of c lies in the front of a buffer, whose rest is as it was
pub record Laid (c : Kept) (was is : List ℕ) : Type 0 where
  pub front : take (length (written c)) is ≡ written c
  pub tail : drop (length (written c)) is ≡ drop (length (written c)) was

-- the first n bytes of a buffer are now the file of c, which reads back; the rest of the buffer is as it was
pub record Wrote (c : Kept) (n : ℕ) (was is : List ℕ) : Type 0 where
  pub asked : write_refusal c (length was) ≡ None
  pub count : n ≡ length (written c)
  pub room : n ≤ length is
  pub front : take n is ≡ written c
  pub tail : drop n is ≡ drop n was
  pub reads : ReadsBack c (take n is)

-- the answer of the writer and its buffer: written, or the first question answered no with the buffer as it was
abbrev pub Writes : Kept → List ℕ → List ℕ → Result ℕ Refusal → Type 0
Writes c was is (Ok n) = Wrote c n was is
Writes c was is (Err refusal) = (write_refusal c (length was) ≡ Some refusal) × (is ≡ was)

-- an accepted file is, byte for byte, what the writer writes of what it keeps
pub record Accepted (most : ℕ) (f : List ℕ) : Type 0 where
  pub asked : file_fault most f ≡ None
  pub proper : Proper (kept_in f)
  pub canonical : written (kept_in f) ≡ f

-- a file just opened: it is the file that was handed over, and its first record comes next
pub record Opened (most : ℕ) (f : List ℕ) (x : CostFile) : Type 0 where
  pub file : x.file.now ≡ f
  pub first : x.next ≡ 0
  pub accepted : Accepted most f

-- a record as it lies in a file: its kind, where its body begins, and its body
pub record Part : Type 0 where
  pub kind : ℕ
  pub offset : ℕ
  pub body : List ℕ

abbrev pub part : ℕ → ℕ → List ℕ → Part
part kind offset body = record { kind = kind; offset = offset; body = body }

-- record i of an accepted file: the plan, then the rows, then the payload if there is one, and then no more
abbrev pub part_at : List ℕ → ℕ → Option Part
part_at f i =
    cond (i == 0) (Some (part 1 4 (take 8 (drop 4 f))))
    (cond (nat_le i (symbols (plan_in f))) (Some (part 2 (row_at (plan_in f) (i - 1) + 4) (row (plan_in f) (kept_in f).rows (i - 1))))
    (cond (i == symbols (plan_in f) + 1 && nat_lt (rows_end (plan_in f)) (length f)) (Some (part 3 (rows_end (plan_in f) + 4) (take (plan_in f).bytes (drop (rows_end (plan_in f) + 4) f)))) None))

-- a record that is handed out, as it lies in the file
abbrev pub part_of : Record → Part
part_of (Plan values bytes offset) = part 1 offset bytes.now
part_of (Row bytes offset) = part 2 offset bytes.now
part_of (Payload bytes offset) = part 3 offset bytes.now

-- the plan's record comes with the numbers of the plan
abbrev pub Numbered : List ℕ → Option Record → Type 0
Numbered f None = Unit {0}
Numbered f (Some (Plan values bytes offset)) = values ≡ plan_in f
Numbered f (Some (Row bytes offset)) = Unit {0}
Numbered f (Some (Payload bytes offset)) = Unit {0}

-- at most this many records are still to come
abbrev pub records_left : CostFile → ℕ
records_left x = symbols x.plan.values + 2 - x.next

-- a record, or none past the last, was handed out: the one whose turn it was, and the turn passes on where one came
pub record Handed (was : CostFile) (r : Option Record) (is : CostFile) : Type 0 where
  pub value : option_map part_of r ≡ part_at was.file.now was.next
  pub numbers : Numbered was.file.now r
  pub file : is.file.now ≡ was.file.now
  pub next : is.next ≡ was.next + cond (is_some r) 1 0
  pub fewer : is_some r ≡ true → records_left is < records_left was
