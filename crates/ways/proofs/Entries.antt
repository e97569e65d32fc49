-- Entry by entry, a table whose columns stand, with what lies behind them, is the work table.
use Rattle.std.proofs.Common.{◌≡◌, ℕ, ◌+◌, ◌-◌, ◌*◌, ◌/◌, ◌%◌, ◌<◌, ◌≤◌, ltb, List, length, get_or, sym, ap, ◌∙◌, ⊎_elim, arith}
use Rattle.std.proofs.lemmas.Bool.{cases_lt, cond-true, cond-false, lt-ltb, le-ltb}
use Rattle.std.proofs.lemmas.List.FromFn.{fill_by_all}
use Rattle.std.proofs.lemmas.Nat.{div-add-mod', div_below, mod_below}
use Rattle.paths.specs.Trellises.{Meaning}
use Rattle.paths.specs.Paths.{path_join, before, after}
use Rattle.paths.specs.Least.{least}
use Rattle.passes.specs.Tables.{columns_size}
use Rattle.passes.proofs.Rows.{row_more}
use Rattle.ways.specs.declared.names.Way.{Way}
use Rattle.ways.specs.Ways.{kept_as}
use Rattle.ways.specs.WorkTables.{column_entries, behind_columns, work_entry, work_table}

-- the forward columns as a way keeps them, and the backward columns
abbrev pub Forth : Way → ℕ → Meaning → List ℕ → Type 0
Forth way states m tb = (k s : ℕ) → k ≤ m.stages → s < states → get_or tb (k * states + s) 0 ≡ kept_as way (path_join least (before states m k s))

abbrev pub Back : Way → ℕ → Meaning → List ℕ → Type 0
Back way states m tb = (k s : ℕ) → k ≤ m.stages → s < states → get_or tb (columns_size states m.stages + (k * states + s)) 0 ≡ kept_as way (path_join least (after m k s))

-- what lies behind the columns
abbrev pub Behind : Way → ℕ → Meaning → List ℕ → Type 0
Behind way states m tb = (p : ℕ) → 2 * column_entries states m ≤ p → p < length tb → get_or tb p 0 ≡ behind_columns way states m (p - 2 * column_entries states m)

module _ (way : Way) (states : ℕ) (m : Meaning) (tb : List ℕ) (some : 1 ≤ states) where
  forth_entry : Forth way states m tb → (p : ℕ) → p < column_entries states m → get_or tb p 0 ≡ kept_as way (path_join least (before states m (p / states) (p % states)))
  forth_entry forth p h =
      let below : p / states < m.stages + 1 = div_below p states (m.stages + 1) (omega arith) h in
      ap (λ a. get_or tb a 0) (sym (div-add-mod' p states)) ∙ forth (p / states) (p % states) (omega arith) (mod_below p states (omega arith))

  back_entry : Back way states m tb → (p q : ℕ) → p ≡ column_entries states m + q → q < column_entries states m → get_or tb p 0 ≡ kept_as way (path_join least (after m (q / states) (q % states)))
  back_entry back p q is h =
      let below : q / states < m.stages + 1 = div_below q states (m.stages + 1) (omega arith) h in
      let parts = div-add-mod' q states in
      let more = row_more m.stages states in
      let at : p ≡ columns_size states m.stages + (q / states * states + q % states) = omega arith in
      ap (λ a. get_or tb a 0) at ∙ back (q / states) (q % states) (omega arith) (mod_below q states (omega arith))

  pub whole_entry : Forth way states m tb → Back way states m tb → Behind way states m tb → (p : ℕ) → p < length tb → get_or tb p 0 ≡ work_entry way states m p
  unfolding work_entry
  whole_entry forth back behind p small =
      let C = column_entries states m in
      ⊎_elim
      (λ lt. forth_entry forth p lt ∙ sym (cond-true (ltb p C) _ _ (lt-ltb p C lt)))
      (λ ge.
      ⊎_elim
      (λ lt. back_entry back p (p - C) (omega arith) lt ∙ sym (cond-true (ltb (p - C) C) _ _ (lt-ltb (p - C) C lt)))
      (λ far. behind p (omega arith) small ∙ sym (cond-false (ltb (p - C) C) _ _ (le-ltb (p - C) C far)))
      (cases_lt (p - C) C)
      ∙ sym (cond-false (ltb p C) _ _ (le-ltb p C ge)))
      (cases_lt p C)

-- every entry is that of a way, and so it is under another name for the same way
abbrev pub Entries : Way → ℕ → Meaning → List ℕ → Type 0
Entries way states m tb = (p : ℕ) → p < length tb → get_or tb p 0 ≡ work_entry way states m p

pub renamed : (way other : Way) (states : ℕ) (m : Meaning) (tb : List ℕ) → way ≡ other → Entries other states m tb → Entries way states m tb
renamed way other states m tb is entries p h = entries p h ∙ ap (λ a. work_entry a states m p) (sym is)

-- a table with these entries is the work table
pub whole_table : (way : Way) (states : ℕ) (m : Meaning) (tb : List ℕ) (n : ℕ) → length tb ≡ n → Entries way states m tb → tb ≡ work_table way states m n
whole_table way states m tb n long entries = fill_by_all (work_entry way states m) tb n 0 long (λ p h. entries p (omega arith))
