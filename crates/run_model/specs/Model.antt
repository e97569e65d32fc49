-- What a run holds, as a model that takes its numbers from all paths of the code.
use Rattle.std.specs.Prelude.{ℕ, zero, suc, ◌+◌, ◌-◌, ◌*◌, Bool, true, not, ◌&&◌, List, map, take, ℤ, pos, ◌==◌, slice_index, slice_set}
use Rattle.std.specs.List.{range_with_len}
use Rattle.plans.specs.declared.values.PlanValues.{PlanValues}
use Rattle.plans.specs.Plans.{stages, coded, symbols, slots, interleaver}
use Rattle.polynomial.specs.Polynomials.{remainder, value}
use Rattle.paths.specs.Trellises.{Meaning}
use Rattle.paths.specs.Paths.{paths, path_join}
use Rattle.paths.specs.Ties.{least_with_ties}
use Rattle.trellises.specs.Inner.{inner}
use Rattle.trellises.specs.Outer.{outer}
use Rattle.ways.specs.declared.names.Way.{Way}
use Rattle.ways.specs.WorkTables.{work_table}
use Rattle.inner_pass.specs.InnerPass.{inner_extrinsics}
use Rattle.outer_pass.specs.OuterPass.{outer_extrinsics, data_reliabilities, decisions}
use Rattle.run_model.specs.declared.state.Standing.{Standing}
use Rattle.run_model.specs.declared.state.Standing.TheVariants.{Nothing, Extrinsics, Decisions}
use Rattle.run_model.specs.Tables.{Tables, row_bytes, work_size, fronted, cleared, row_laid, placed, gathered_by}

pub record Model : Type 0 where
  pub plan : PlanValues
  pub tables : Tables
  pub passes : ℕ
  pub ties : ℕ
  pub standing : Standing

-- all tables but rows and marks are 0
abbrev pub wiped : PlanValues → Tables → Tables
wiped v t = record t {
  e = cleared (coded v) (pos 0) t.e;
  a = cleared (coded v) (pos 0) t.a;
  x = cleared (coded v) (pos 0) t.x;
  g = cleared (coded v) (pos 0) t.g;
  u = cleared (stages v) (pos 0) t.u;
  d = cleared (stages v) 0 t.d;
  work = cleared (work_size v) 0 t.work;
}

-- rows and marks replaced
abbrev pub with_rows : List ℕ → List ℕ → Tables → Tables
with_rows rows marks t = record t { rows = rows; marks = marks }

-- a new run: all tables are 0, and nothing stands
abbrev pub opened : PlanValues → Tables → Model
opened v t = record { plan = v; tables = wiped v (with_rows (cleared (row_bytes v) 0 t.rows) (cleared (symbols v) 0 t.marks) t); passes = 0; ties = 0; standing = Nothing }

-- row k came: its bytes are laid and its mark is set; all other tables are 0, nothing stands, and no pass was made
unfoldable pub row_came : ℕ → List ℕ → Model → Model
row_came k bytes m = record m {
  tables = wiped m.plan (with_rows (row_laid k (slots m.plan) bytes m.tables.rows) (slice_set m.tables.marks k 1) m.tables);
  passes = 0;
  standing = Nothing;
}

-- the rows of a plan, and what the inner pass is told, are the fronts of their tables; they make the inner trellis
abbrev pub plan_rows : Model → List ℕ
plan_rows m = take (row_bytes m.plan) m.tables.rows

abbrev pub inner_priors : Model → List ℤ
inner_priors m = take (coded m.plan) m.tables.a

abbrev pub inner_of : Model → Meaning
inner_of m = inner m.plan.bits (symbols m.plan) (plan_rows m) (inner_priors m)

-- an inner pass: what is sent on about each interleaved bit, over all paths of the inner trellis
unfoldable pub inner_passed : Way → Model → Model
inner_passed way m = record m {
  tables = record m.tables {
    e = fronted (coded m.plan) (inner_extrinsics m.plan.bits (symbols m.plan) (plan_rows m) (inner_priors m)) m.tables.e;
    work = fronted (work_size m.plan) (work_table way 2 (inner_of m) (work_size m.plan)) m.tables.work;
  };
  standing = Extrinsics;
}

-- what the inner pass sent on about interleaved bit j is told the outer pass about coded bit f(j)
abbrev pub told_outer : Model → List ℤ
told_outer m = placed (interleaver m.plan) (coded m.plan) m.tables.e m.tables.x

abbrev pub outer_priors : Model → List ℤ
outer_priors m = take (coded m.plan) (told_outer m)

abbrev pub outer_of : Model → Meaning
outer_of m = outer (stages m.plan) (outer_priors m)

-- how many paths of the outer trellis have the least cost, counted up to 255
abbrev pub outer_ties : Model → ℕ
outer_ties m = (path_join least_with_ties (paths 4 (outer_of m))).count

-- an outer pass: what is sent on about each coded bit goes back to the interleaved bits; each data bit has its reliability and
-- its decision; all over all paths of the outer trellis
unfoldable pub outer_passed : Way → Model → Model
outer_passed way m = record m {
  tables = record m.tables {
    a = fronted (coded m.plan) (gathered_by (interleaver m.plan) (coded m.plan) (outer_extrinsics (stages m.plan) (outer_priors m))) m.tables.a;
    x = told_outer m;
    g = fronted (coded m.plan) (outer_extrinsics (stages m.plan) (outer_priors m)) m.tables.g;
    u = fronted (stages m.plan) (data_reliabilities (stages m.plan) (outer_priors m)) m.tables.u;
    d = fronted (stages m.plan) (decisions (stages m.plan) (outer_priors m)) m.tables.d;
    work = fronted (work_size m.plan) (work_table way 4 (outer_of m) (work_size m.plan)) m.tables.work;
  };
  passes = m.passes + 1;
  ties = outer_ties m;
  standing = Decisions;
}

-- a decided bit: a forced one is zero
abbrev pub decided_bit : List ℕ → ℕ → Bool
decided_bit d k = slice_index d k == 1

abbrev pub decided_bits : ℕ → List ℕ → List Bool
decided_bits n d = map (decided_bit d) (range_with_len 0 n)

-- the remainder of the decided bits before the last two, as a number
unfoldable pub decided_remainder : PlanValues → List ℕ → ℕ
decided_remainder v d = value (remainder (decided_bits (stages v - 2) d))

-- the decided payload: each byte has eight decided bits, the most significant first
unfoldable pub decided_payload : PlanValues → List ℕ → List ℕ
decided_payload v d = map (λ i. value (map (decided_bit d) (range_with_len (8 * i) 8))) (range_with_len 0 v.bytes)

-- every row has come: none of the first n marks is 0
abbrev pub none_missing : ℕ → List ℕ → Bool
none_missing zero marks = true
none_missing (suc n) marks = none_missing n marks && not (slice_index marks n == 0)
