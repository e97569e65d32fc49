-- The number of each refusal, and questions asked in order.
use Rattle.std.specs.Prelude.{ℕ, Bool, true, false, Some, None, Option}
use Rattle.plans.specs.declared.refusals.Refusal.{Refusal}
use Rattle.plans.specs.declared.refusals.Refusal.TheVariants.{PayloadBytes, SymbolBits, Interleaver, Room, Lengths, FileLength, RecordCheck, RecordHead, LengthDue}

abbrev pub number_of : Refusal → ℕ
number_of PayloadBytes = 1
number_of SymbolBits = 2
number_of Interleaver = 3
number_of Room = 4
number_of Lengths = 7
number_of FileLength = 12
number_of RecordCheck = 13
number_of RecordHead = 14
number_of LengthDue = 15

-- the refusal of a question whose answer is a test
abbrev pub unless : {A : Type 0} → Bool → A → Option A
unless true x = None
unless false x = Some x

-- the first refusal of two
abbrev pub first_of : {A : Type 0} → Option A → Option A → Option A
first_of (Some x) later = Some x
first_of None later = later
