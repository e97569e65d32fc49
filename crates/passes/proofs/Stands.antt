-- Each block's metastage stands in the place of its first stage.
use Rattle.std.proofs.Common.{◌≡◌, ℕ, suc, ◌+◌, ◌*◌, ◌<◌, ◌≤◌, ◌≢◌, cond, eqb, List, get_or, add-one, sym, ap, ◌∙◌, inl, inr, ⊎_elim, arith}
use Rattle.std.proofs.lemmas.Bool.{cases_eq, cases_lt, eq-eqb, ne_eqb}
use Rattle.paths.specs.Semirings.{Operations, Semiring}
use Rattle.paths.specs.Trellises.{Meaning, Lawful}
use Rattle.paths.specs.Paths.{across, path_join}
use Rattle.paths.proofs.Gathers.{parallel_is}
use Rattle.paths.proofs.Carried.{joins_fine}
use Rattle.paths.proofs.Products.{stage_across, products_are_joins}
use Rattle.passes.specs.Tables.{Outside, stage_at, Stages, dotted}
use Rattle.passes.specs.declared.orders.Span.{Span}
use Rattle.passes.specs.Orders.{span_at, ends_at, begins_before, made_one}
use Rattle.passes.proofs.Rows.{row_under}
use Rattle.passes.proofs.Rooms.{entry_room}
use Rattle.passes.proofs.Dots.{dotted_joins}
use Rattle.passes.proofs.Blocks.{Blocks, first_low, last_high, last_low, at_first, was_open, ends_kept}

-- entry s, t joins the walks from s to t across the block
abbrev pub Standing : {W : Type 0} → Operations W → ℕ → Meaning → ℕ → List Span → List W → Type 0
Standing o w m n e tb = (a : ℕ) → a < n → 0 < ends_at e a → (s t : ℕ) → s < w → t < w → get_or tb (stage_at 0 w a s t) o.none ≡ path_join o (across m a (ends_at e a) s t)

-- entry s, t joins the walks from s to t from each stage a on to where r says
abbrev pub Made : {W : Type 0} → Operations W → ℕ → Meaning → ℕ → (ℕ → ℕ) → List W → Type 0
Made o w m n r tb = (a s t : ℕ) → a < n → s < w → t < w → get_or tb (stage_at 0 w a s t) o.none ≡ path_join o (across m a (r a) s t)

-- another slot
apart : (w a b s t : ℕ) → a ≢ b → s < w → t < w → Outside (b * (w * w)) (w * w) (stage_at 0 w a s t)
apart w a b s t ne small little =
    let e = entry_room s t w small little in
    ⊎_elim
    (λ l. let r = row_under a b (w * w) l in inl (omega arith))
    (λ l. let r = row_under b a (w * w) (omega arith) in inr (omega arith))
    (cases_lt a b)

module _ {W : Type 0} {fine : W → Type 0} {o : Operations W} (laws : Semiring fine o) (w : ℕ) (m : Meaning) (n : ℕ) (few : n ≤ m.stages) where
  -- at first each stage is a block
  pub stages_stand : (e : List Span) (tb : List W) → Stages o w m 0 tb → ((k : ℕ) → k < n → span_at e k ≡ record { end = k + 1; begin = k }) → Standing o w m n e tb
  stages_stand e tb stand single a h open-here s t small little =
      let ends : suc a ≡ ends_at e a = (let x = ap (λ s. s.end) (single a h) in omega arith) in
      stand a s t (omega arith) small little ∙ parallel_is laws (m.edges a) s t ∙ stage_across laws w m a s t ∙ ap (λ b. path_join o (across m a b s t)) ends

  -- and made last there
  pub stages_made : (tb : List W) → Stages o w m 0 tb → Made o w m n (λ a. a + 1) tb
  stages_made tb stand a s t h small little =
      stand a s t (omega arith) small little ∙ parallel_is laws (m.edges a) s t ∙ stage_across laws w m a s t ∙ ap (λ b. path_join o (across m a b s t)) (sym (add-one a))

  module _ {ceiling bits : ℕ} (law : Lawful w ceiling bits m) (e : List Span) (sound : Blocks n e) (j : ℕ) (some : 0 < j) (low : j < n) (open-here : 0 < ends_at e j) (old new : List W) (was : Standing o w m n e old) where
    -- the entry of two blocks made one
    both : (s t : ℕ) → s < w → t < w → dotted o w old (begins_before e j * (w * w) + s * w) (j * (w * w) + t) w ≡ path_join o (across m (begins_before e j) (ends_at e j) s t)
    both s t small little =
        let a = begins_before e j in
        let f = first_low n e sound j some low open-here in
        let g = last_high n e sound j some low open-here in
        let h = last_low n e sound j some low open-here in
        let is = sound.forth j some low open-here in
        dotted_joins laws w old (a * (w * w) + s * w) (j * (w * w) + t) (λ v. path_join o (across m a j s v)) (λ v. path_join o (across m j (ends_at e j) v t)) (λ v. joins_fine laws _) (λ v. joins_fine laws _)
        (λ v lt.
        let at : a * (w * w) + s * w + v ≡ stage_at 0 w a s v = omega arith in
        ap (λ p. get_or old p o.none) at ∙ was a (omega arith) (omega arith) s v small lt ∙ ap (λ b. path_join o (across m a b s v)) is)
        (λ v lt.
        let at : j * (w * w) + t + v * w ≡ stage_at 0 w j v t = omega arith in
        ap (λ p. get_or old p o.none) at ∙ was j low open-here v t lt little)
        ∙ products_are_joins laws w ceiling bits m law a j (ends_at e j) (omega arith) (omega arith) (omega arith) s t small little

    pub one_stands : ((p : ℕ) → p < n * (w * w) → Outside (begins_before e j * (w * w)) (w * w) p → get_or new p o.none ≡ get_or old p o.none)
        → ((s t : ℕ) → s < w → t < w → get_or new (begins_before e j * (w * w) + (s * w + t)) o.none ≡ dotted o w old (begins_before e j * (w * w) + s * w) (j * (w * w) + t) w)
        → Standing o w m n (made_one e j) new
    one_stands kept made a h o2 s t small little =
        let x = begins_before e j in
        ⊎_elim
        (λ q.
        let r : a * (w * w) ≡ x * (w * w) = ap (λ a. a * (w * w)) q in
        let at : stage_at 0 w a s t ≡ x * (w * w) + (s * w + t) = omega arith in
        ap (λ p. get_or new p o.none) at ∙ made s t small little ∙ both s t small little
        ∙ ap (λ b. path_join o (across m x b s t)) (sym (ap (ends_at (made_one e j)) q ∙ at_first n e sound j some low open-here))
        ∙ ap (λ c. path_join o (across m c (ends_at (made_one e j) a) s t)) (sym q))
        (λ q.
        let r = row_under a n (w * w) h in
        let u = entry_room s t w small little in
        kept (stage_at 0 w a s t) (omega arith) (apart w a x s t q small little)
        ∙ was a h (was_open n e sound j some low open-here a h o2) s t small little
        ∙ ap (λ b. path_join o (across m a b s t)) (sym (ends_kept n e sound j some low open-here a h q o2)))
        (cases_eq a x)

    pub one_made : ((p : ℕ) → p < n * (w * w) → Outside (begins_before e j * (w * w)) (w * w) p → get_or new p o.none ≡ get_or old p o.none)
        → ((s t : ℕ) → s < w → t < w → get_or new (begins_before e j * (w * w) + (s * w + t)) o.none ≡ dotted o w old (begins_before e j * (w * w) + s * w) (j * (w * w) + t) w)
        → (r : ℕ → ℕ) → Made o w m n r old → Made o w m n (λ b. cond (eqb b (begins_before e j)) (ends_at e j) (r b)) new
    one_made kept made r were a s t h small little =
        let x = begins_before e j in
        ⊎_elim
        (λ q.
        let z : a * (w * w) ≡ x * (w * w) = ap (λ a. a * (w * w)) q in
        let at : stage_at 0 w a s t ≡ x * (w * w) + (s * w + t) = omega arith in
        ap (λ p. get_or new p o.none) at ∙ made s t small little ∙ both s t small little
        ∙ ap (λ c. path_join o (across m c (ends_at e j) s t)) (sym q)
        ∙ ap (λ b. path_join o (across m a (cond b (ends_at e j) (r a)) s t)) (sym (eq-eqb a x q)))
        (λ q.
        let z = row_under a n (w * w) h in
        let u = entry_room s t w small little in
        kept (stage_at 0 w a s t) (omega arith) (apart w a x s t q small little) ∙ were a s t h small little
        ∙ ap (λ b. path_join o (across m a (cond b (ends_at e j) (r a)) s t)) (sym (ne_eqb a x q)))
        (cases_eq a x)

-- the places of the two blocks, and a spare place behind all
pub places : (n : ℕ) (e : List Span) (sound : Blocks n e) (j : ℕ) → 0 < j → j < n → 0 < ends_at e j → (q : ℕ) → (begins_before e j * q + q ≤ j * q) × (j * q + q ≤ n * q)
places n e sound j some low open-here q = (row_under (begins_before e j) j q (first_low n e sound j some low open-here), row_under j n q low)
