-- The tables of a run as lists, the front of each that a plan uses, and what is written there.
use Rattle.std.specs.Prelude.{ℕ, zero, suc, ◌+◌, ◌*◌, ◌≤◌, Bool, ◌&&◌, List, ◌++◌, map, length, get_or, take, drop, replicate, ℤ, pos, nat_le, slice_index_or, slice_set}
use Rattle.std.specs.List.{range_with_len}
use Rattle.plans.specs.declared.values.PlanValues.{PlanValues}
use Rattle.plans.specs.Plans.{stages, coded, symbols, slots}

pub record Tables : Type 0 where
  -- the slot costs, a row for each symbol, and a mark for each symbol whose row has come
  pub rows : List ℕ
  pub marks : List ℕ
  -- of the interleaved bits: what the inner pass sends on, and what it was told
  pub e : List ℤ
  pub a : List ℤ
  -- of the coded bits: what the outer pass was told, and what it sends on
  pub x : List ℤ
  pub g : List ℤ
  -- of the data bits: reliabilities, and decisions, 2 where a bit is forced
  pub u : List ℤ
  pub d : List ℕ
  -- what the last pass worked with
  pub work : List ℕ

-- how many bytes the rows of a plan have, and how many numbers its work table
abbrev pub row_bytes : PlanValues → ℕ
row_bytes v = symbols v * slots v

abbrev pub work_size : PlanValues → ℕ
work_size v = 40 * stages v + 256

-- every table is at least as long as the plan asks
pub record Roomy (v : PlanValues) (t : Tables) : Type 0 where
  pub rows : row_bytes v ≤ length t.rows
  pub marks : symbols v ≤ length t.marks
  pub e : coded v ≤ length t.e
  pub a : coded v ≤ length t.a
  pub x : coded v ≤ length t.x
  pub g : coded v ≤ length t.g
  pub u : stages v ≤ length t.u
  pub d : stages v ≤ length t.d
  pub work : work_size v ≤ length t.work

-- the same as a test
abbrev pub roomy : PlanValues → Tables → Bool
roomy v t =
    nat_le (row_bytes v) (length t.rows) && nat_le (symbols v) (length t.marks) && nat_le (coded v) (length t.e) && nat_le (coded v) (length t.a) && nat_le (coded v) (length t.x) && nat_le (coded v) (length t.g) && nat_le (stages v) (length t.u) && nat_le (stages v) (length t.d) && nat_le (work_size v) (length t.work)

-- a table whose first n entries are these now
abbrev pub fronted : {A : Type 0} → ℕ → List A → List A → List A
fronted n new t = new ++ drop n t

-- a table whose first n entries are all z
abbrev pub cleared : {A : Type 0} → ℕ → A → List A → List A
cleared n z t = fronted n (replicate n z) t

-- the m bytes of row k replaced
abbrev pub row_laid : ℕ → ℕ → List ℕ → List ℕ → List ℕ
row_laid k m bytes rows = take (k * m) rows ++ (bytes ++ drop (k * m + m) rows)

-- entry f(j) becomes entry j of e, for each j below n
abbrev pub placed : (ℕ → ℕ) → ℕ → List ℤ → List ℤ → List ℤ
placed f zero e t = t
placed f (suc j) e t = slice_set (placed f j e t) (f j) (slice_index_or e j (pos 0))

-- entry j is entry f(j) of g, for each j below n
abbrev pub gathered_by : (ℕ → ℕ) → ℕ → List ℤ → List ℤ
gathered_by f n g = map (λ j. get_or g (f j) (pos 0)) (range_with_len 0 n)
