-- Where the columns on both sides of a stage stand in a work table.
use Rattle.std.proofs.Common.{◌≡◌, ℕ, suc, ◌+◌, ◌-◌, ◌*◌, ◌<◌, ◌≤◌, ltb, List, length, get_or, take, drop, length-take, length-drop, refl, ap, ◌⊎◌, ⊎_elim, ◌∙◌, le_refl, suc-mul, mul-le-mul, arith, sym, subst}
use Rattle.std.proofs.lemmas.Nat.{div-mul-add, mod-mul-add}
use Rattle.std.proofs.lemmas.Bool.{lt-ltb, le-ltb}
use Rattle.std.proofs.lemmas.List.{get_or_default}
use Rattle.paths.specs.Semirings.{Operations}
use Rattle.marginals.specs.declared.room.ByBit.{ByBit}
use Rattle.marginals.specs.declared.room.Room.{Room}
use Rattle.marginals.specs.Rooms.{Leaves}
use Rattle.marginals.specs.Words.{entry_of, neither}
use Rattle.marginals.proofs.Lawful.{leaves_of}
use Rattle.marginals.proofs.Frames.{part_entry}
use Rattle.paths.specs.Trellises.{Meaning, Lawful}
use Rattle.paths.specs.Paths.{path_join, before, after}
use Rattle.paths.specs.Least.{least}
use Rattle.ways.specs.declared.names.Way.{Way}
use Rattle.ways.specs.declared.names.Way.TheVariants.{Columns, Metastages}
use Rattle.ways.specs.Ways.{kept_as, ops_as}
use Rattle.ways.specs.WorkTables.{work_entry, column_entries}

-- entry s of column k, where columns have S entries and there are n + 1 of them
pub inside : (states n k s : ℕ) → k ≤ n → s < states → k * states + s < n * states + states
inside states n k s l h = let e : k * states ≤ n * states = mul-le-mul l (le_refl states) in omega arith

all_entries : (states n : ℕ) → (n + 1) * states ≡ n * states + states
all_entries states n = omega arith

pub front_entry : (way : Way) (states : ℕ) (m : Meaning) (k s : ℕ) → k ≤ m.stages → s < states → work_entry way states m (k * states + s) ≡ kept_as way (path_join least (before states m k s))
unfolding work_entry
front_entry way states m k s l h =
    let e = all_entries states m.stages in
    let i = inside states m.stages k s l h in
    let t : ltb (k * states + s) (column_entries states m) ≡ _ = lt-ltb (k * states + s) (column_entries states m) (omega arith) in
    rw (t, div-mul-add k states s h, mod-mul-add k states s h) refl

pub back_entry : (way : Way) (states : ℕ) (m : Meaning) (k s p : ℕ) → p ≡ m.stages * states + states + (k * states + s) → k ≤ m.stages → s < states → work_entry way states m p ≡ kept_as way (path_join least (after m k s))
unfolding work_entry
back_entry way states m k s p at l h =
    let e = all_entries states m.stages in
    let i = inside states m.stages k s l h in
    let q : p - column_entries states m ≡ k * states + s = omega arith in
    let far : ltb p (column_entries states m) ≡ _ = le-ltb p (column_entries states m) (omega arith) in
    let near : ltb (k * states + s) (column_entries states m) ≡ _ = lt-ltb (k * states + s) (column_entries states m) (omega arith) in
    rw (far, q, near, div-mul-add k states s h, mod-mul-add k states s h) refl

-- the two columns on both sides of a stage, read from a table at the places that the code computes
module _ (way : Way) (states : ℕ) (m : Meaning) (table : List ℕ) (k sc st : ℕ) (e : sc ≡ states) (f : st ≡ m.stages) (low : k < m.stages)
    (long : m.stages * states + states + (m.stages * states + states) ≤ length table)
    (worked : (p : ℕ) → p < m.stages * states + states + (m.stages * states + states) → get_or table p 0 ≡ work_entry way states m p) where
  pub fits : (k * sc + sc ≤ length table) × (st * sc + sc + k * sc + sc + sc ≤ length table)
  fits =
      let h : suc k * states ≤ m.stages * states = mul-le-mul low (le_refl states) in
      let z = suc-mul k states in
      (rw e (omega arith), rw (e, f) (omega arith))

  pub columns_there : (states ≤ length (take (k * sc + sc - k * sc) (drop (k * sc) table)))
      × (states ≤ length (take (st * sc + sc + k * sc + sc + sc - (st * sc + sc + k * sc + sc)) (drop (st * sc + sc + k * sc + sc) table)))
  columns_there = let r = fits in (simp (length-take, length-drop) (omega arith), simp (length-take, length-drop) (omega arith))

  pub front_of : (s : ℕ) → s < states → get_or (take (k * sc + sc - k * sc) (drop (k * sc) table)) s 0 ≡ kept_as way (path_join least (before states m k s))
  front_of s h =
      let i = inside states m.stages k s (omega arith) h in
      part_entry 0 table (k * sc) sc s (omega arith) ∙ ap (λ x. get_or table (k * x + s) 0) e ∙ worked (k * states + s) (omega arith) ∙ front_entry way states m k s (omega arith) h

  pub back_of : (s : ℕ) → s < states
      → get_or (take (st * sc + sc + k * sc + sc + sc - (st * sc + sc + k * sc + sc)) (drop (st * sc + sc + k * sc + sc) table)) s 0 ≡ kept_as way (path_join least (after m (suc k) s))
  back_of s h =
      let i = inside states m.stages (suc k) s low h in
      let z = suc-mul k states in
      let at : st * sc + sc + k * sc + sc + s ≡ m.stages * states + states + (suc k * states + s) = rw (e, f) (omega arith) in
      part_entry 0 table (st * sc + sc + k * sc + sc) sc s (omega arith)
      ∙ ap (λ x. get_or table x 0) at ∙ worked (m.stages * states + states + (suc k * states + s)) (omega arith)
      ∙ back_entry way states m (suc k) s (m.stages * states + states + (suc k * states + s)) refl low h

  -- what is left in the room, by the least costs that the columns keep
  pub room_of : (o : Operations ℕ) → o ≡ ops_as way → {ceiling bits : ℕ} → Lawful states ceiling bits m → (n : ℕ) (old new : Room ℕ)
      → Leaves o states n (m.edges k) (entry_of o (take (k * sc + sc - k * sc) (drop (k * sc) table))) (entry_of o (take (st * sc + sc + k * sc + sc + sc - (st * sc + sc + k * sc + sc)) (drop (st * sc + sc + k * sc + sc) table))) old new
      → Leaves (ops_as way) states n (m.edges k) (λ s. kept_as way (path_join least (before states m k s))) (λ s. kept_as way (path_join least (after m (suc k) s))) old new
  room_of o is law n old new l =
      let c = columns_there in
      let front = take (k * sc + sc - k * sc) (drop (k * sc) table) in
      let back = take (st * sc + sc + k * sc + sc + sc - (st * sc + sc + k * sc + sc)) (drop (st * sc + sc + k * sc + sc) table) in
      let F : ℕ → ℕ = λ s. kept_as way (path_join least (before states m k s)) in
      let G : ℕ → ℕ = λ s. kept_as way (path_join least (after m (suc k) s)) in
      subst (λ (o : Operations ℕ). Leaves o states n (m.edges k) F G old new) is
      (leaves_of {o = o} m law k low (entry_of o front) (entry_of o back) F G
      (λ s h. let r = c.0 in get_or_default front s o.none 0 (omega arith) ∙ front_of s h) (λ s h. let r = c.1 in get_or_default back s o.none 0 (omega arith) ∙ back_of s h) n old new l)

-- where the table is kept as another way would keep it
pub as_is : (way other : Way) → way ≡ other → (x y : ℕ) → x ≡ kept_as way y → x ≡ kept_as other y
as_is way other e x y h = h ∙ ap (λ w. kept_as w y) e

pub least_kept : (way : Way) → (way ≡ Columns) ⊎ (way ≡ Metastages) → (x y : ℕ) → x ≡ kept_as way y → x ≡ y
least_kept way is x y h = ⊎_elim (λ e. as_is way Columns e x y h) (λ e. as_is way Metastages e x y h) is

pub least_ops : (way : Way) → (way ≡ Columns) ⊎ (way ≡ Metastages) → least ≡ ops_as way
least_ops way is = ⊎_elim (λ e. sym (ap ops_as e)) (λ e. sym (ap ops_as e)) is

-- what is found of a bit, as a way keeps it
abbrev pub FoundAs : Way → List (ByBit ℕ) → ℕ → ℕ → ℕ → Type 0
FoundAs way bits b x y = get_or bits b (neither (ops_as way)) ≡ record { zero = kept_as way x; one = kept_as way y }

pub found_as : (way other : Way) → way ≡ other → (bits : List (ByBit ℕ)) (b x y : ℕ) → FoundAs other bits b x y → FoundAs way bits b x y
found_as way other e bits b x y h = subst (λ w. FoundAs w bits b x y) (sym e) h

pub least_found : (way : Way) → (way ≡ Columns) ⊎ (way ≡ Metastages) → (bits : List (ByBit ℕ)) (b x y : ℕ) → FoundAs Columns bits b x y → FoundAs way bits b x y
least_found way is bits b x y h = ⊎_elim (λ e. found_as way Columns e bits b x y h) (λ e. found_as way Metastages e bits b x y h) is
