use Rattle.std.proofs.Common.{length, ◌≡◌, ℕ, suc, ◌+◌, ◌-◌, ◌*◌, ◌/◌, ◌%◌, ◌<◌, ◌≤◌, get_or, sym, refl, ap, ◌∙◌, subst, inl, inr, ⊎_elim, add-mul, zero-mul, add-one, arith, below_more}
use Rattle.std.proofs.lemmas.Bool.{cases_lt}
use Rattle.paths.specs.Metastages.{level_size, level_start}
use Rattle.paths.proofs.Levels.{size_zero, size_suc, start_zero, start_suc, below_fourteen, levels_take}
use Rattle.passes.specs.Tables.{dotted}
use Rattle.passes.specs.Levels.{Level}
use Rattle.passes.proofs.Rows.{rows}
use Rattle.passes.proofs.Fills.{level_kept, first_level, next_level, room_level, room_under, pairs_room}
use Rattle.passes.proofs.metastages.levels.Goals as goal

pub loop-many-init : goal.loop-many-init
loop-many-init g c =
    let o = g.W.Weights.ops in
    let w = g.T.Trellis.states in
    let m = g.T.Trellis.meaning c.args.t.now in
    let n = m.stages in
    let tb = c.args.table.now in
    let some = (g.T.Trellis.lawful c.args.t.now).some_stages in
    let z = size_zero n in
    let y = ap (λ a. a * (w * w)) (start_zero n) in
    let x = zero-mul (w * w) in
    let first : Level o w m c.args.base 0 n tb = first_level g.met.W.Semiring.laws w m c.args.base tb c.requires.stages in (
      (λ p h. refl),
      omega arith,
      (omega arith, omega arith, λ i h. absurd (omega arith)),
      omega arith,
      λ i h. let e : i ≡ 0 = omega arith in subst (λ a. Level o w m c.args.base a (level_size n a) tb) (sym e) (λ j s t l. first j s t (omega arith)),
    )

pub overflow_mul-to : goal.overflow_mul-to
overflow_mul-to g c =
    let r = pairs_room c.args.base g.T.Trellis.states c.state_count-states.result (g.T.Trellis.meaning c.args.t.now).stages c.loop-many.level c.loop-many.many c.loop-many.from (length c.loop-many.table) c.state_count-states.ensures
    (g.T.Trellis.lawful c.args.t.now).few_stages c.loop-many.invariant.1 (omega arith) c.loop-many.invariant.3 (omega arith) in
    omega arith

pub overflow_add-to : goal.overflow_add-to
overflow_add-to g c =
    let r = pairs_room c.args.base g.T.Trellis.states c.state_count-states.result (g.T.Trellis.meaning c.args.t.now).stages c.loop-many.level c.loop-many.many c.loop-many.from (length c.loop-many.table) c.state_count-states.ensures
    (g.T.Trellis.lawful c.args.t.now).few_stages c.loop-many.invariant.1 (omega arith) c.loop-many.invariant.3 (omega arith) in
    omega arith

pub overflow_add-many : goal.overflow_add-many
overflow_add-many g c =
    let n = (g.T.Trellis.meaning c.args.t.now).stages in
    let few = (g.T.Trellis.lawful c.args.t.now).few_stages in
    let is = c.loop-many.invariant.1 in
    let t = levels_take n c.loop-many.level in
    omega arith

pub pairs-requires : goal.pairs-requires
pairs-requires g c =
    let few = (g.T.Trellis.lawful c.args.t.now).few_states in
    let q = c.state_count-states.ensures in
    let r = pairs_room c.args.base g.T.Trellis.states c.state_count-states.result (g.T.Trellis.meaning c.args.t.now).stages c.loop-many.level c.loop-many.many c.loop-many.from (length c.loop-many.table) c.state_count-states.ensures
    (g.T.Trellis.lawful c.args.t.now).few_stages c.loop-many.invariant.1 (omega arith) c.loop-many.invariant.3 (omega arith) in
    record { few = omega arith; room = omega arith; apart = omega arith }

pub loop-many-preserved : goal.loop-many-preserved
loop-many-preserved g c =
    let o = g.W.Weights.ops in
    let laws = g.met.W.Semiring.laws in
    let m = g.T.Trellis.meaning c.args.t.now in
    let law = g.T.Trellis.lawful c.args.t.now in
    let w = g.T.Trellis.states in
    let n = m.stages in
    let l = c.loop-many.level in
    let v = c.state_count-states.result in
    let q = c.state_count-states.ensures in
    let many = c.loop-many.many in
    let old = c.loop-many.table in
    let new = c.pairs.new.table in
    let base = c.args.base in
    let from = c.loop-many.from in
    let to = from + many * (v * v) in
    let is = c.loop-many.invariant.1 in
    let at = c.loop-many.invariant.3 in
    let few = law.few_stages in
    let r = room_level n l (w * w) few (omega arith) in
    let e : many * (v * v) ≡ many * (w * w) = ap (λ v. many * (v * v)) q in
    let f = ap (λ a. a * (w * w)) is in
    let sz : (many + 1) / 2 ≡ level_size n (suc l) = ap (λ a. (a + 1) / 2) is ∙ sym (size_suc n l) in
    let room : (many + 1) / 2 * (v * v) ≡ (many + 1) / 2 * (w * w) = ap (λ v. (many + 1) / 2 * (v * v)) q in
    let up : suc l ≡ l + 1 = sym (add-one l) in
    let st = ap (λ a. a * (w * w)) (start_suc n l) in
    let st2 = add-mul (level_start n l) (level_size n l) (w * w) in
    let below = room_under n 0 l (w * w) (omega arith) in
    let whole : n * (w * w) ≤ (level_start n 0 + level_size n 0) * (w * w) = (let x = size_zero n in rows n (level_start n 0 + level_size n 0) (w * w) (omega arith)) in
    let made = subst (λ S. (j s t : ℕ) → j < many / 2 → s < S → t < S → get_or new (to + j * (S * S) + (s * S + t)) o.none ≡ dotted o S old (from + 2 * j * (S * S) + s * S) (from + 2 * j * (S * S) + S * S + t) S) q c.pairs.ensures.made in
    let odd = subst (λ S. many % 2 ≡ 1 → (i : ℕ) → i < S * S → get_or new (to + many / 2 * (S * S) + i) o.none ≡ get_or old (from + (many - 1) * (S * S) + i) o.none) q c.pairs.ensures.odd in
    let was : Level o w m base l many old = λ j s t a. c.loop-many.invariant.4 l (omega arith) j s t (omega arith) in
    let last : Level o w m base (suc l) (level_size n (suc l)) new = next_level laws w m base law old new l from to many is at (omega arith) was made odd in (
      (λ p h. c.pairs.ensures.kept p (⊎_elim (λ l. inl (omega arith)) (λ l. inr (omega arith)) h) ∙ c.loop-many.invariant.0 p (⊎_elim (λ l. inl l) (λ l. inr (omega arith)) h)),
      sz ∙ ap (level_size n) up,
      (
        omega arith,
        (let d = below_fourteen n l few (omega arith) in omega arith),
        below_more (λ i. 1 < level_size n i) l c.loop-many.invariant.2.2 (omega arith),
      ),
      (let z : to ≡ base + level_start n (suc l) * (w * w) = omega arith in z) ∙ ap (λ a. base + level_start n a * (w * w)) up,
      λ i h. ⊎_elim
          (λ before. let u = room_under n i l (w * w) (omega arith) in level_kept o w m base old new i (level_size n i) to (c.loop-many.invariant.4 i (omega arith)) (omega arith) (λ p k. c.pairs.ensures.kept p (inl k)))
          (λ now. let z : suc l ≡ i = omega arith in subst (λ a. Level o w m base a (level_size n a) new) z last)
          (cases_lt i (l + 1)),
    )

pub returns : goal.returns
returns g c =
    let w = g.T.Trellis.states in
    let n = (g.T.Trellis.meaning c.args.t.now).stages in
    let l = c.loop-many.level in
    let is = c.loop-many.invariant.1 in
    let at = c.loop-many.invariant.3 in
    let up = ap (λ i. level_start n i + 0) (add-one l) in
    let st = start_suc n l in
    let end : (level_start n (l + 1) + 0) * (w * w) ≡ level_start n l * (w * w) + c.loop-many.many * (w * w) =
    ap (λ a. a * (w * w)) (let z : level_start n (l + 1) + 0 ≡ level_start n l + c.loop-many.many = omega arith in z) ∙ add-mul (level_start n l) c.loop-many.many (w * w) in
    record {
      kept = λ p h. c.loop-many.invariant.0 p (⊎_elim (λ l. inl l) (λ l. inr (omega arith)) h);
      few = c.loop-many.invariant.2.1;
      one = omega arith;
      first = c.loop-many.invariant.2.2;
      made = c.loop-many.invariant.4;
    }
