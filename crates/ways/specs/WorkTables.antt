-- The work table of a pass, entry by entry, as each way leaves it.
use Rattle.std.specs.Prelude.{ℕ, zero, suc, ◌+◌, ◌-◌, ◌*◌, ◌/◌, ◌%◌, cond, List, map, length, nat_le, nat_lt, slice_index_or}
use Rattle.std.specs.List.{range_with_len, flat_map}
use Rattle.paths.specs.Trellises.{Meaning}
use Rattle.paths.specs.Paths.{path_join, before, after, across}
use Rattle.paths.specs.Metastages.{level_size, covers_from}
use Rattle.paths.specs.Least.{least}
use Rattle.ways.specs.declared.names.Way.{Way}
use Rattle.ways.specs.declared.names.Way.TheVariants.{Columns, Metastages, Modular}
use Rattle.ways.specs.Ways.{kept_as}

-- a range of stages: from the first on, and before the second
pub record Range : Type 0 where
  pub first : ℕ
  pub past : ℕ

-- the ranges that the metastages of level l cover
abbrev pub level_ranges : ℕ → ℕ → List Range
level_ranges n l = map (λ j. record { first = covers_from n l j; past = covers_from n l (j + 1) }) (range_with_len 0 (level_size n l))

-- the first level from l on that has one metastage
abbrev pub last_from : ℕ → ℕ → ℕ → ℕ
last_from n zero l = l
last_from n (suc fuel) l = cond (nat_le (level_size n l) 1) l (last_from n fuel (l + 1))

-- the level at which one metastage is left
unfoldable pub last_level : ℕ → ℕ
last_level n = last_from n 15 0

-- the ranges of all metastages in the order in which they lie: level after level
unfoldable pub all_ranges : ℕ → List Range
all_ranges n = flat_map (level_ranges n) (range_with_len 0 (last_level n + 1))

-- entry s * S + t of the metastage over a range: the least cost of the walks across it from s to t
abbrev pub range_entry : ℕ → Meaning → Range → ℕ → ℕ
range_entry states m range e = path_join least (across m range.first range.past (e / states) (e % states))

-- entry q behind the columns
abbrev pub behind_columns : Way → ℕ → Meaning → ℕ → ℕ
behind_columns Columns states m q = 0
behind_columns Modular states m q = 0
behind_columns Metastages states m q =
    cond (nat_lt (q / (states * states)) (length (all_ranges m.stages)))
    (range_entry states m (slice_index_or (all_ranges m.stages) (q / (states * states)) (record { first = 0; past = 0 })) (q % (states * states)))
    0

-- how many entries the forward columns take, and the backward columns after them
abbrev pub column_entries : ℕ → Meaning → ℕ
column_entries states m = (m.stages + 1) * states

-- entry p of the work table: entry k * S + s is the least cost of the first k stages ending in s; the backward costs follow, there
-- entry k * S + s is that of the stages from k on out of s; then what the way keeps behind them; all further entries are 0
unfoldable pub work_entry : Way → ℕ → Meaning → ℕ → ℕ
work_entry way states m p =
    cond (nat_lt p (column_entries states m))
    (kept_as way (path_join least (before states m (p / states) (p % states))))
    (cond (nat_lt (p - column_entries states m) (column_entries states m))
    (kept_as way (path_join least (after m ((p - column_entries states m) / states) ((p - column_entries states m) % states))))
    (behind_columns way states m (p - 2 * column_entries states m)))

-- a work table of n entries
abbrev pub work_table : Way → ℕ → Meaning → ℕ → List ℕ
work_table way states m n = map (work_entry way states m) (range_with_len 0 n)
