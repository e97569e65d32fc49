-- The three ways in which a pass can be worked, and their numbers.
use Rattle.std.specs.Prelude.{ℕ, ◌%◌, cond, Some, None, Option, ◌==◌}
use Rattle.paths.specs.Semirings.{Operations}
use Rattle.paths.specs.Least.{least, top}
use Rattle.modulo.specs.Modulo.{modulo}
use Rattle.ways.specs.declared.names.Way.{Way}
use Rattle.ways.specs.declared.names.Way.TheVariants.{Columns, Metastages, Modular}

abbrev pub way_number : Way → ℕ
way_number Columns = 1
way_number Metastages = 2
way_number Modular = 3

abbrev pub way_of : ℕ → Option Way
way_of n = cond (n == 1) (Some Columns) (cond (n == 2) (Some Metastages) (cond (n == 3) (Some Modular) None))

-- the operations by which a way works
abbrev pub ops_as : Way → Operations ℕ
ops_as Columns = least
ops_as Metastages = least
ops_as Modular = modulo

-- a least cost as a way keeps it in its table: the third keeps it modulo 65,536, and 65,536 for none
abbrev pub kept_as : Way → ℕ → ℕ
kept_as Columns x = x
kept_as Metastages x = x
kept_as Modular x = cond (x == top) 65536 (x % 65536)
