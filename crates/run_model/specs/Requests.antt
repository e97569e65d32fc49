-- A call with its arguments, as the model is fed it.
use Rattle.std.specs.Prelude.{ℕ, cond, List, map, is_some}
use Rattle.ways.specs.Ways.{way_of}
use Rattle.run_model.specs.declared.calls.Call.{Call}
use Rattle.run_model.specs.declared.calls.Call.TheVariants.{Row, Inner, Outer, Check, Read, Take}

pub data Request : Type 0 where
  row_call : ℕ → List ℕ → Request
  inner_call : ℕ → Request
  outer_call : ℕ → Request
  check_call : Request
  read_call : ℕ → ℕ → Request
  take_call : ℕ → ℕ → Request

abbrev pub request_of : Call → Request
request_of (Row index bytes) = row_call index bytes.now
request_of (Inner way) = inner_call way
request_of (Outer way) = outer_call way
request_of Check = check_call
request_of (Read kind index) = read_call kind index
request_of (Take at room) = take_call at room

abbrev pub requests : List Call → List Request
requests calls = map request_of calls

-- any number that names a way becomes 1
abbrev pub any_way : ℕ → ℕ
any_way n = cond (is_some (way_of n)) 1 n

-- a call without the way that it names: two lists of calls differ only in the ways that their passes name where these are equal
abbrev pub wayless : Request → Request
wayless (row_call k bytes) = row_call k bytes
wayless (inner_call n) = inner_call (any_way n)
wayless (outer_call n) = outer_call (any_way n)
wayless check_call = check_call
wayless (read_call kind i) = read_call kind i
wayless (take_call at room) = take_call at room
