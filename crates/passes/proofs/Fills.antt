-- One level more stands in a table.
use Rattle.std.proofs.Common.{◌≡◌, ℕ, suc, ◌+◌, ◌-◌, ◌*◌, ◌/◌, ◌%◌, ◌<◌, ◌≤◌, List, get_or, sym, ap, ◌∙◌, ⊎_elim, add-mul, arith}
use Rattle.std.proofs.lemmas.Bool.{cases_lt}
use Rattle.paths.specs.Semirings.{Operations, Semiring}
use Rattle.paths.specs.Trellises.{Meaning, Lawful}
use Rattle.paths.specs.Metastages.{level_size, level_start, metastage_at}
use Rattle.paths.proofs.Gathers.{parallel_is}
use Rattle.paths.proofs.Carried.{joins_fine}
use Rattle.paths.proofs.Levels.{size_suc, start_zero, start_suc, levels_take, levels_fit, level_ends}
use Rattle.paths.proofs.Covered.{covered, stage_covered, pair_covered, odd_covered}
use Rattle.passes.specs.Tables.{Stages, dotted}
use Rattle.passes.specs.Levels.{Level, levels_room}
use Rattle.passes.proofs.Rows.{row_under, row_more, rows}
use Rattle.passes.proofs.Rooms.{entry_room}
use Rattle.passes.proofs.Dots.{dotted_joins}

-- the lowest level is that of the stages
pub lowest_at : (base w n k : ℕ) → metastage_at base w n 0 k ≡ base + k * (w * w)
lowest_at base w n k = let none_below : level_start n 0 + k ≡ k = (let z = start_zero n in omega arith) in ap (λ a. base + a * (w * w)) none_below

module _ {W : Type 0} (o : Operations W) (w : ℕ) (m : Meaning) (base : ℕ) (old new : List W) where
  -- a level in what did not change
  pub level_kept : (i many limit : ℕ) → Level o w m base i many old → base + (level_start m.stages i + many) * (w * w) ≤ limit
      → ((p : ℕ) → p < limit → get_or new p o.none ≡ get_or old p o.none) → Level o w m base i many new
  level_kept i many limit was room same j s t h small little =
      let e = entry_room s t w small little in
      let v = row_under (level_start m.stages i + j) (level_start m.stages i + many) (w * w) (omega arith) in
      same (metastage_at base w m.stages i j + (s * w + t)) (omega arith) ∙ was j s t h small little

module _ {W : Type 0} {fine : W → Type 0} {o : Operations W} (laws : Semiring fine o) (w : ℕ) (m : Meaning) (base : ℕ) where
  -- the metastages of the stages are the lowest level
  pub first_level : (tb : List W) → Stages o w m base tb → Level o w m base 0 m.stages tb
  first_level tb stand j s t h small little =
      ap (λ a. get_or tb (a + (s * w + t)) o.none) (lowest_at base w m.stages j)
      ∙ stand j s t h small little ∙ parallel_is laws (m.edges j) s t ∙ stage_covered laws m w j s t h

  -- two neighbours of a level made one
  pair_made : {ceiling bits : ℕ} → Lawful w ceiling bits m → (tb : List W) (l j left right s t : ℕ) → s < w → t < w
      → ((v : ℕ) → v < w → get_or tb (left + v) o.none ≡ covered o m l (2 * j) s v) → ((v : ℕ) → v < w → get_or tb (right + v * w) o.none ≡ covered o m l (2 * j + 1) v t)
      → dotted o w tb left right w ≡ covered o m (suc l) j s t
  pair_made {ceiling} {bits} law tb l j left right s t small little a b =
      dotted_joins laws w tb left right (covered o m l (2 * j) s) (λ v. covered o m l (2 * j + 1) v t) (λ v. joins_fine laws _) (λ v. joins_fine laws _) a b
      ∙ pair_covered laws m w ceiling bits law l j s t small little

  -- a level of pairs with a last odd one
  module _ {ceiling bits : ℕ} (law : Lawful w ceiling bits m) (old new : List W) (l from to many : ℕ) where
    pub next_level : many ≡ level_size m.stages l → from ≡ base + level_start m.stages l * (w * w) → to ≡ from + many * (w * w)
        → Level o w m base l many old
        → ((j s t : ℕ) → j < many / 2 → s < w → t < w → get_or new (to + j * (w * w) + (s * w + t)) o.none ≡ dotted o w old (from + 2 * j * (w * w) + s * w) (from + 2 * j * (w * w) + w * w + t) w)
        → (many % 2 ≡ 1 → (i : ℕ) → i < w * w → get_or new (to + many / 2 * (w * w) + i) o.none ≡ get_or old (from + (many - 1) * (w * w) + i) o.none)
        → Level o w m base (suc l) (level_size m.stages (suc l)) new
    next_level long begins follows was made odd j s t h small little =
        let n = m.stages in
        let q = w * w in
        let st = level_start n l in
        let sz = size_suc n l in
        let a1 = add-mul (level_start n (suc l)) j q in
        let a2 = ap (λ a. a * q) (start_suc n l) in
        let a3 = add-mul st (level_size n l) q in
        let a4 = ap (λ a. a * q) long in
        let at : metastage_at base w n (suc l) j ≡ to + j * q = omega arith in
        ap (λ a. get_or new (a + (s * w + t)) o.none) at
        ∙ ⊎_elim
        (λ pair.
        let b1 = add-mul st (2 * j) q in
        let b2 = add-mul st (2 * j + 1) q in
        let b3 = row_more (2 * j) q in
        made j s t pair small little
        ∙ pair_made law old l j (from + 2 * j * q + s * w) (from + 2 * j * q + q + t) s t small little
        (λ v lt. let p1 : from + 2 * j * q + s * w + v ≡ metastage_at base w n l (2 * j) + (s * w + v) = omega arith in ap (λ a. get_or old a o.none) p1 ∙ was (2 * j) s v (omega arith) small lt)
        (λ v lt. let p2 : from + 2 * j * q + q + t + v * w ≡ metastage_at base w n l (2 * j + 1) + (v * w + t) = omega arith in ap (λ a. get_or old a o.none) p2 ∙ was (2 * j + 1) v t (omega arith) lt little))
        (λ single.
        let e : j ≡ many / 2 = omega arith in
        let r : many % 2 ≡ 1 = omega arith in
        let u = entry_room s t w small little in
        let b1 = add-mul st (many - 1) q in
        let p1 : from + (many - 1) * q + (s * w + t) ≡ metastage_at base w n l (many - 1) + (s * w + t) = omega arith in
        ap (λ a. get_or new (to + a * q + (s * w + t)) o.none) e
        ∙ odd r (s * w + t) u
        ∙ ap (λ a. get_or old a o.none) p1
        ∙ was (many - 1) s t (omega arith) small little
        ∙ odd_covered laws m l many s t long r
        ∙ ap (λ i. covered o m (suc l) i s t) (sym e))
        (cases_lt j (many / 2))

-- a level with more than one fits with the next, and lower levels lie before it
pub room_level : (n l q : ℕ) → n ≤ 16384 → 1 < level_size n l → level_start n l * q + level_size n l * q + level_size n (suc l) * q ≤ (2 * n + 14) * q
room_level n l q h many =
    let a = rows (level_start n l + level_size n l + level_size n (suc l)) (2 * n + 14) q (levels_fit n l h many) in
    let b = add-mul (level_start n l + level_size n l) (level_size n (suc l)) q in
    let c = add-mul (level_start n l) (level_size n l) q in
    omega arith

pub room_under : (n i l q : ℕ) → i ≤ l → (level_start n i + level_size n i) * q ≤ level_start n l * q + level_size n l * q
room_under n i l q h =
    let a = rows (level_start n i + level_size n i) (level_start n l + level_size n l) q (let e = level_ends n i l h in let f = start_suc n l in omega arith) in
    let c = add-mul (level_start n l) (level_size n l) q in
    omega arith

-- the one that is left lies within the room
pub room_last : (n l q : ℕ) → l ≤ 14 → level_size n l ≡ 1 → (level_start n l + 0) * q + q ≤ (2 * n + 14) * q
room_last n l q few one =
    let t = levels_take n l in
    let r = rows (level_start n l + 0 + 1) (2 * n + 14) q (omega arith) in
    let s = row_more (level_start n l + 0) q in
    omega arith

-- the next level lies within the table, as the code counts it
pub pairs_room : (base w v n l many from size : ℕ) → v ≡ w → n ≤ 16384 → many ≡ level_size n l → 1 < many → from ≡ base + level_start n l * (w * w) → base + levels_room w n ≤ size
    → from + many * (v * v) + (many + 1) / 2 * (v * v) ≤ size
pairs_room base w v n l many from size states few is more at room =
    let r = room_level n l (w * w) few (omega arith) in
    let e = ap (λ v. many * (v * v)) states in
    let f = ap (λ a. a * (w * w)) is in
    let h : (many + 1) / 2 * (v * v) ≡ level_size n (suc l) * (w * w) = ap (λ v. (many + 1) / 2 * (v * v)) states ∙ ap (λ a. (a + 1) / 2 * (w * w)) is ∙ ap (λ a. a * (w * w)) (sym (size_suc n l)) in
    omega arith
