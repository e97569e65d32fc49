-- The columns of a pass, as a way keeps them in its table.
use Rattle.std.proofs.Common.{◌≡◌, ℕ, ◌+◌, ◌*◌, ◌%◌, ◌<◌, ◌≤◌, eqb, List, length, get_or, sym, ap, ◌∙◌, ⊎_elim, arith}
use Rattle.std.proofs.lemmas.List.{get_or_default}
use Rattle.std.proofs.lemmas.Bool.{cond-true, cond-false, eq-eqb, ne_eqb}
use Rattle.paths.specs.Trellises.{Meaning, Lawful, Reaches}
use Rattle.paths.specs.Least.{least, top}
use Rattle.paths.specs.LeastLaws.{least_laws}
use Rattle.paths.proofs.Passes.{columns_are_joins}
use Rattle.passes.specs.Tables.{columns_size, Forward, Backward}
use Rattle.passes.proofs.Rows.{rows}
use Rattle.modulo.specs.Modulo.{modulo, Stands}
use Rattle.modulo.specs.Spread.{Served}
use Rattle.modulo.proofs.Stand.{columns_stand}
use Rattle.ways.specs.declared.names.Way.{Way}
use Rattle.ways.specs.declared.names.Way.TheVariants.{Modular}
use Rattle.ways.specs.Ways.{kept_as}
use Rattle.ways.proofs.Entries.{Forth, Back}

-- a trellis with so low a spread is served: its ceiling is below 10,923
pub served : (states ceiling bits reach : ℕ) (m : Meaning) → Lawful states ceiling bits m → Reaches states reach m → 1 ≤ reach → (2 * reach + 1) * ceiling < 32768 → Served states ceiling bits reach m
served states ceiling bits reach m law reaches some modest =
    let three = rows 3 (2 * reach + 1) ceiling (omega arith) in
    record { connected = record { lawful = law; reaches = reaches; some_reach = some; low_ceiling = omega arith }; modest = modest }

-- a number that stands for a least cost is what the third way keeps
stands_kept : (x y : ℕ) → Stands x y → y ≡ kept_as Modular x
stands_kept x y =
    ⊎_elim
    (λ h. h.1 ∙ sym (cond-true (eqb x top) 65536 (x % 65536) (eq-eqb x top h.0)))
    (λ h. h.1 ∙ sym (cond-false (eqb x top) 65536 (x % 65536) (ne_eqb x top (λ e. let l = h.0 in omega arith))))

-- the columns stand in the first table, which the second repeats before `base`
module _ (states : ℕ) (m : Meaning) (old new : List ℕ) (base : ℕ) (room : base ≤ length old) (apart : columns_size states m.stages + columns_size states m.stages ≤ base)
    (same : (p : ℕ) → p < base → get_or new p 0 ≡ get_or old p 0) where
  forth_read : (d k s : ℕ) → k ≤ m.stages → s < states → get_or new (k * states + s) 0 ≡ get_or old (k * states + s) d
  forth_read d k s h small =
      let r = rows k m.stages states h in
      same (k * states + s) (omega arith) ∙ get_or_default old (k * states + s) 0 d (omega arith)

  back_read : (d k s : ℕ) → k ≤ m.stages → s < states → get_or new (columns_size states m.stages + (k * states + s)) 0 ≡ get_or old (columns_size states m.stages + (k * states + s)) d
  back_read d k s h small =
      let r = rows k m.stages states h in
      let at = columns_size states m.stages + (k * states + s) in
      same at (omega arith) ∙ get_or_default old at 0 d (omega arith)

  module _ (ceiling bits : ℕ) (law : Lawful states ceiling bits m) (way : Way) (plain : (x : ℕ) → kept_as way x ≡ x) where
    pub least_forth : Forward least states m old → Forth way states m new
    least_forth made k s h small =
        forth_read top k s h small ∙ made k s h small ∙ (columns_are_joins least_laws states ceiling bits m law).forth k s h small ∙ sym (plain _)

    pub least_back : Backward least states m old → Back way states m new
    least_back made k s h small =
        back_read top k s h small ∙ made k s h small ∙ (columns_are_joins least_laws states ceiling bits m law).back k s h small ∙ sym (plain _)

  module _ (ceiling bits reach : ℕ) (serves : Served states ceiling bits reach m) where
    pub modular_forth : Forward modulo states m old → Forth Modular states m new
    modular_forth made k s h small =
        forth_read 65536 k s h small ∙ made k s h small
        ∙ stands_kept _ _ (columns_stand states ceiling bits reach m serves k s h small).0
        ∙ ap (kept_as Modular) ((columns_are_joins least_laws states ceiling bits m serves.connected.lawful).forth k s h small)

    pub modular_back : Backward modulo states m old → Back Modular states m new
    modular_back made k s h small =
        back_read 65536 k s h small ∙ made k s h small
        ∙ stands_kept _ _ (columns_stand states ceiling bits reach m serves k s h small).1
        ∙ ap (kept_as Modular) ((columns_are_joins least_laws states ceiling bits m serves.connected.lawful).back k s h small)
