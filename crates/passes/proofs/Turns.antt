-- One edge more, joined into a table.
use Rattle.std.proofs.Common.{◌≡◌, ℕ, ◌+◌, ◌*◌, ◌<◌, ◌≤◌, Bool, cond, ◌&&◌, eqb, ◌≢◌, List, [], ◌∷◌, ◌++◌, length, get_or, take, set, Some, sym, refl, ap, ◌∙◌, ⊎_elim, arith, get_or-set_other, get_or-set_same, eq-eqb, ne_eqb}
use Rattle.std.proofs.lemmas.List.{take_more}
use Rattle.std.proofs.lemmas.Bool.{cases_eq, cases_lt}
use Rattle.std.specs.List.{slice_get}
use Rattle.paths.specs.declared.edges.Edge.{Edge}
use Rattle.paths.specs.Semirings.{Operations}
use Rattle.paths.specs.Trellises.{Each}
use Rattle.paths.specs.Columns.{gathered, parallel}
use Rattle.paths.proofs.Inside.{Low}
use Rattle.passes.proofs.Rows.{row_under}
use Rattle.std.proofs.lemmas.Option.{slice_get_within, get_or_from_slice_get}

module _ {W : Type 0} (o : Operations W) where
  gathered_last : (test : Edge → Bool) (v : Edge → W) (a : W) (es : List Edge) (e : Edge)
      → gathered o test v a (es ++ (e ∷ [])) ≡ cond (test e) (o.join (gathered o test v a es) (v e)) (gathered o test v a es)
  unfolding gathered
  gathered_last test v a [] e = refl
  gathered_last test v a (x ∷ es) e = gathered_last test v (cond (test x) (o.join a (v x)) a) es e

  pub gathered_more : (test : Edge → Bool) (v : Edge → W) (a : W) (es : List Edge) (i : ℕ) (e : Edge) → slice_get es i ≡ Some e
      → gathered o test v a (take (i + 1) es) ≡ cond (test e) (o.join (gathered o test v a (take i es)) (v e)) (gathered o test v a (take i es))
  gathered_more test v a es i e at =
      ap (gathered o test v a) (take_more es i e (slice_get_within es i e at) ∙ ap (λ y. take i es ++ (y ∷ [])) (get_or_from_slice_get es i e e at))
      ∙ gathered_last test v a (take i es) e

  -- other values of the same edges
  pub gathered_each : (P : Edge → Type 0) (test : Edge → Bool) (v u : Edge → W) → ((e : Edge) → P e → v e ≡ u e) → (a : W) (es : List Edge) → Each P es
      → gathered o test v a es ≡ gathered o test u a es
  unfolding gathered
  gathered_each P test v u same a [] all = refl
  gathered_each P test v u same a (e ∷ es) all =
      ap (λ x. gathered o test v (cond (test e) (o.join a x) a) es) (same e all.0) ∙ gathered_each P test v u same (cond (test e) (o.join a (u e)) a) es all.1

  -- place x, y of a square is another than that of an edge which leads otherwise
  apart : (w x y : ℕ) (e : Edge) → Low w e → x < w → y < w → (e.from ≢ x) → (x * w + y) ≢ (e.from * w + e.to)
  apart w x y e low small little q s =
      let r = low.to_low in
      ⊎_elim
      (λ l. let v = row_under e.from x w l in omega arith)
      (λ l. let v = row_under x e.from w (omega arith) in omega arith)
      (cases_lt e.from x)

  -- in the metastage of a stage
  pub stage_turned : (es : List Edge) (i : ℕ) (e : Edge) → slice_get es i ≡ Some e → (tb : List W) (w : ℕ) → Low w e → w * w ≤ length tb
      → ((x y : ℕ) → x < w → y < w → get_or tb (x * w + y) o.none ≡ parallel o (take i es) x y)
      → (x y : ℕ) → x < w → y < w
      → get_or (set tb (e.from * w + e.to) (o.join (get_or tb (e.from * w + e.to) o.none) (o.value e.cost))) (x * w + y) o.none ≡ parallel o (take (i + 1) es) x y
  stage_turned es i e at tb w low room inv x y small little =
      let more = gathered_more (λ e. eqb e.from x && eqb e.to y) (λ e. o.value e.cost) o.none es i e at in
      let was = parallel o (take i es) x y in
      let u = row_under e.from w w low.from_low in
      let r = low.to_low in
      let here = e.from * w + e.to in
      let there = x * w + y in
      let new : W = o.join (get_or tb here o.none) (o.value e.cost) in
      let lt : here < length tb = omega arith in
      let old = inv x y small little in
      ⊎_elim
      (λ q. ⊎_elim
      (λ p.
      let same : there ≡ here = ap (λ a. a * w + y) (sym q) ∙ ap (λ b. e.from * w + b) (sym p) in
      ap (λ a. get_or (set tb here new) a o.none) same
      ∙ get_or-set_same tb here new o.none lt
      ∙ ap (λ a. o.join (get_or tb a o.none) (o.value e.cost)) (sym same)
      ∙ ap (λ a. o.join a (o.value e.cost)) old
      ∙ sym (more ∙ ap (λ b. cond (b && eqb e.to y) (o.join was (o.value e.cost)) was) (eq-eqb e.from x q) ∙ ap (λ b. cond b (o.join was (o.value e.cost)) was) (eq-eqb e.to y p)))
      (λ p.
      let z = ap (λ a. a * w) q in
      let ne : there ≢ here = λ s. p (omega arith) in
      get_or-set_other tb here there new o.none ne ∙ old
      ∙ sym (more ∙ ap (λ b. cond (b && eqb e.to y) (o.join was (o.value e.cost)) was) (eq-eqb e.from x q) ∙ ap (λ b. cond b (o.join was (o.value e.cost)) was) (ne_eqb e.to y p)))
      (cases_eq e.to y))
      (λ q.
      get_or-set_other tb here there new o.none (apart w x y e low small little q) ∙ old
      ∙ sym (more ∙ ap (λ b. cond (b && eqb e.to y) (o.join was (o.value e.cost)) was) (ne_eqb e.from x q)))
      (cases_eq e.from x)

  -- in a column
  pub column_turned : (v : Edge → W) (es : List Edge) (i : ℕ) (e : Edge) → slice_get es i ≡ Some e → (tb : List W) (w : ℕ) → Low w e → w ≤ length tb
      → ((s : ℕ) → s < w → get_or tb s o.none ≡ gathered o (λ e. eqb e.to s) v o.none (take i es))
      → (s : ℕ) → s < w
      → get_or (set tb e.to (o.join (get_or tb e.to o.none) (v e))) s o.none ≡ gathered o (λ e. eqb e.to s) v o.none (take (i + 1) es)
  column_turned v es i e at tb w low room inv s small =
      let more = gathered_more (λ e. eqb e.to s) v o.none es i e at in
      let was = gathered o (λ e. eqb e.to s) v o.none (take i es) in
      let r = low.to_low in
      let here = e.to in
      let new : W = o.join (get_or tb here o.none) (v e) in
      let lt : here < length tb = omega arith in
      let old = inv s small in
      ⊎_elim
      (λ p.
      let same : s ≡ here = sym p in
      ap (λ a. get_or (set tb here new) a o.none) same
      ∙ get_or-set_same tb here new o.none lt
      ∙ ap (λ a. o.join (get_or tb a o.none) (v e)) (sym same)
      ∙ ap (λ a. o.join a (v e)) old
      ∙ sym (more ∙ ap (λ b. cond b (o.join was (v e)) was) (eq-eqb e.to s p)))
      (λ p.
      let ne : s ≢ here = λ u. p (omega arith) in
      get_or-set_other tb here s new o.none ne ∙ old ∙ sym (more ∙ ap (λ b. cond b (o.join was (v e)) was) (ne_eqb e.to s p)))
      (cases_eq e.to s)
