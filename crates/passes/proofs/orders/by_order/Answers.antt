use Rattle.std.proofs.Common.{Option, None, cond, eqb, take, ◌≡◌, ℕ, ◌+◌, ◌-◌, ◌*◌, ◌<◌, true, false, not, ◌&&◌, ltb, length, get_or, drop, Some, inr, sym, refl, ap, ◌∙◌, subst, zero-mul, arith}
use Rattle.std.proofs.lemmas.List.{get_or-take, length-take-le}
use Rattle.std.proofs.lemmas.Bool.{ne_eqb, lt-ltb, le-ltb, cond-true, cond-false}
use Rattle.paths.specs.Trellises.{Lawful}
use Rattle.paths.specs.Paths.{across, path_join}
use Rattle.passes.specs.Tables.{stage_at, Spare, Stages}
use Rattle.passes.specs.Orders.{span_at, complete_order, ends_at, begins_before, is_open, made_one, followed, ends_made, made_last}
use Rattle.passes.proofs.Rooms.{entry_room}
use Rattle.passes.proofs.Blocks.{Blocks, single, first_low, last_low, at_boundary, one_sound}
use Rattle.passes.proofs.Counts.{opens, opens_all, opens_less, one_left}
use Rattle.passes.proofs.Follows.{follows, open_parts, open_after, complete_is, follows_on, follows_stops, follows_ends}
use Rattle.passes.proofs.Stands.{Standing, stages_stand, stages_made, one_stands, one_made, places}
use Rattle.passes.proofs.Ends.{single_is, spans_on, spans_stop, spans_end, ends_on, ends_stop, ends_end, spans_left, ends_left, last_on, last_stop, last_end, last_left}
use Rattle.passes.proofs.Sums.{last_metastage}
use Rattle.passes.proofs.orders.by_order.Goals as goal

pub loop-j-init : goal.loop-j-init
loop-j-init g c =
    let o = g.W.Weights.ops in
    let m = g.T.Trellis.meaning c.args.t.now in
    let n = c.stages-stages.result in
    let single_each : (k : ℕ) → k < n → span_at c.single_blocks.new.spans k ≡ record { end = k + 1; begin = k } = λ k h. c.single_blocks.ensures k (omega (arith, length-take-le n c.args.spans.now)) in
    let v = c.state_count-states.result in
    let e = c.single_blocks.new.spans in
    let tb = c.lay_stages.new.table in
    let is_n = c.stages-stages.ensures in
    let some = (g.T.Trellis.lawful c.args.t.now).some_stages in
    let stand : Stages o v m 0 tb = subst (λ w. Stages o w m 0 tb) (sym c.state_count-states.ensures) c.lay_stages.ensures.made in
    let all = opens_all e (n - 1) (λ i p h. let x = ap (λ s. s.end) (single_each i (omega arith)) in omega arith) in (
      single n e (omega arith) (omega (arith, length-take-le n c.args.spans.now)) single_each,
      stages_stand g.met.W.Semiring.laws v m n (omega arith) e tb stand single_each,
      omega arith,
      refl,
      λ p h.
          let room : n * (v * v) + v * v ≡ m.stages * (g.T.Trellis.states * g.T.Trellis.states) + g.T.Trellis.states * g.T.Trellis.states = ap (λ n. n * (v * v) + v * v) is_n ∙ ap (λ v. m.stages * (v * v) + v * v) c.state_count-states.ensures in
          c.lay_stages.ensures.kept p (inr (omega arith)),
      refl,
      (λ b. b + 1, (λ a. refl, stages_made g.met.W.Semiring.laws v m n (omega arith) tb stand)),
      (
        None,
        (
          refl,
          λ p h.
              let front : n * (v * v) ≡ m.stages * (g.T.Trellis.states * g.T.Trellis.states) = ap (λ n. n * (v * v)) is_n ∙ ap (λ v. m.stages * (v * v)) c.state_count-states.ensures in
              c.lay_stages.ensures.kept p (inr (omega arith)),
        ),
      ),
    )

pub replace-requires : goal.replace-requires
replace-requires g c =
    let n = c.stages-stages.result in
    let size : length c.loop-j.spans ≡ n = omega (arith, length-take-le n c.args.spans.now) in
    let v = c.state_count-states.result in
    let e = c.loop-j.spans in
    let j = get_or c.args.order.now c.loop-j.j-index 0 in
    let p = open_parts n e j (rw size at (sym c.if-not-is_open.ensures)) in
    let r = places n e c.loop-j.invariant.0 j p.0 p.1 p.2 (v * v) in
    let room : n * (v * v) + v * v ≡ (g.T.Trellis.meaning c.args.t.now).stages * (g.T.Trellis.states * g.T.Trellis.states) + g.T.Trellis.states * g.T.Trellis.states =
    ap (λ n. n * (v * v) + v * v) c.stages-stages.ensures ∙ ap (λ v. (g.T.Trellis.meaning c.args.t.now).stages * (v * v) + v * v) c.state_count-states.ensures in
    (r.0, r.1, omega arith)

pub overflow_mul-first : goal.overflow_mul-first
overflow_mul-first g c =
    let n = c.stages-stages.result in
    let size : length c.loop-j.spans ≡ n = omega (arith, length-take-le n c.args.spans.now) in
    let v = c.state_count-states.result in
    let j = get_or c.args.order.now c.loop-j.j-index 0 in
    let p = open_parts n c.loop-j.spans j (rw size at (sym c.if-not-is_open.ensures)) in
    let r = places n c.loop-j.spans c.loop-j.invariant.0 j p.0 p.1 p.2 (v * v) in
    let room : n * (v * v) + v * v ≡ (g.T.Trellis.meaning c.args.t.now).stages * (g.T.Trellis.states * g.T.Trellis.states) + g.T.Trellis.states * g.T.Trellis.states =
    ap (λ n. n * (v * v) + v * v) c.stages-stages.ensures ∙ ap (λ v. (g.T.Trellis.meaning c.args.t.now).stages * (v * v) + v * v) c.state_count-states.ensures in
    omega arith

pub close-requires : goal.close-requires
close-requires g c =
    let n = c.stages-stages.result in
    let size : length c.loop-j.spans ≡ n = omega (arith, length-take-le n c.args.spans.now) in
    let e = c.loop-j.spans in
    let j = get_or c.args.order.now c.loop-j.j-index 0 in
    let p = open_parts n e j (rw size at (sym c.if-not-is_open.ensures)) in
    let sound = c.loop-j.invariant.0 in
    let f = first_low n e sound j p.0 p.1 p.2 in
    let l = last_low n e sound j p.0 p.1 p.2 in
    let low = p.1 in
    record { boundary = (p.0, omega arith); sound = (omega arith, p.2, omega arith) }

pub loop-j-preserved : goal.loop-j-preserved
loop-j-preserved g c =
    let o = g.W.Weights.ops in
    let laws = g.met.W.Semiring.laws in
    let m = g.T.Trellis.meaning c.args.t.now in
    let n = c.stages-stages.result in
    let size : length c.loop-j.spans ≡ n = omega (arith, length-take-le n c.args.spans.now) in
    let v = c.state_count-states.result in
    let e = c.loop-j.spans in
    let order = c.args.order.now in
    let i = c.loop-j.j-index in
    let j = get_or order i 0 in
    let d = made_one e j in
    let here : is_open n e j ≡ true = rw size at (sym c.if-not-is_open.ensures) in
    let p = open_parts n e j here in
    let sound = c.loop-j.invariant.0 in
    let is_n = c.stages-stages.ensures in
    let is : d ≡ c.close.new.spans = sym c.close.ensures in
    let ceiling = g.T.Trellis.ceiling in
    let bits = g.T.Trellis.bits c.args.t.now in
    let law : Lawful v ceiling bits m = subst (λ w. Lawful w ceiling bits m) (sym c.state_count-states.ensures) (g.T.Trellis.lawful c.args.t.now) in
    let stands : Standing o v m n d c.replace.new.table =
    one_stands laws v m n (omega arith) law e sound j p.0 p.1 p.2 c.loop-j.table c.replace.new.table c.loop-j.invariant.1 c.replace.ensures.kept c.replace.ensures.made in
    let shut = at_boundary n e sound j p.0 p.1 p.2 in
    let less = (opens_less e d j (n - 1) p.0 (lt-ltb 0 (ends_at e j) p.2) (le-ltb 0 (ends_at d j) (omega arith))
    (λ k a b u. open_after n e sound j p.0 p.1 p.2 k (omega arith) ∙ ap (λ b. not b && ltb 0 (ends_at e k)) (ne_eqb j k (λ q. u (sym q))))).1 (let x = p.1 in omega arith) in
    let made = c.loop-j.invariant.6 in
    let next : ℕ → ℕ = λ b. cond (eqb b (begins_before e j)) (ends_at e j) (made.0 b) in
    let was = c.loop-j.invariant.2 in (
      subst (Blocks n) is (one_sound n e sound j p.0 p.1 p.2),
      subst (λ d. Standing o v m n d c.replace.new.table) is stands,
      subst (λ d. opens d (n - 1) + (i + 1) ≡ n - 1) is (omega arith),
      c.loop-j.invariant.3 ∙ follows_on n e order i (omega arith) here ∙ ap (λ d. follows n d (drop (i + 1) order)) is,
      λ p h. c.replace.ensures.rest p h ∙ c.loop-j.invariant.4 p h,
      c.loop-j.invariant.5 ∙ spans_on n e order i (omega arith) here ∙ ap (λ d. followed n d (drop (i + 1) order)) is,
      (
        next,
        (
          λ a. made.1.0 a ∙ ends_on n e order i made.0 a (omega arith) here ∙ ap (λ d. ends_made n d next (drop (i + 1) order) a) is,
          one_made laws v m n (omega arith) law e sound j p.0 p.1 p.2 c.loop-j.table c.replace.new.table c.loop-j.invariant.1 c.replace.ensures.kept c.replace.ensures.made made.0 made.1.1,
        ),
      ),
      (
        Some (begins_before e j),
        (
          c.loop-j.invariant.7.1.0 ∙ last_on n e order i c.loop-j.invariant.7.0 (omega arith) here ∙ ap (λ d. made_last n d (Some (begins_before e j)) (drop (i + 1) order)) is,
          λ x y small little.
              let there : stage_at 0 v n x y ≡ n * (v * v) + (x * v + y) = omega arith in
              let first : stage_at 0 v (begins_before e j) x y ≡ begins_before e j * (v * v) + (x * v + y) = omega arith in
              ap (λ p. get_or c.replace.new.table p o.none) there ∙ c.replace.ensures.spare x y small little ∙ sym (ap (λ p. get_or c.replace.new.table p o.none) first ∙ c.replace.ensures.made x y small little),
        ),
      ),
    )

pub returns-then-not-is_open-clause-answer : goal.returns-then-not-is_open-clause-answer
returns-then-not-is_open-clause-answer g c =
    let n = c.stages-stages.result in
    let single_each : (k : ℕ) → k < n → span_at c.single_blocks.new.spans k ≡ record { end = k + 1; begin = k } = λ k h. c.single_blocks.ensures k (omega (arith, length-take-le n c.args.spans.now)) in
    let size : length c.loop-j.spans ≡ n = omega (arith, length-take-le n c.args.spans.now) in
    let order = c.args.order.now in
    let i = c.loop-j.j-index in
    let here : is_open n c.loop-j.spans (get_or order i 0) ≡ false = rw size at (sym c.if-not-is_open.ensures) in
    let some = (g.T.Trellis.lawful c.args.t.now).some_stages in
    let is_n = c.stages-stages.ensures in
    let begun = c.single_blocks.new.spans in
    let sound = single n begun (omega arith) (omega (arith, length-take-le n c.args.spans.now)) single_each in
    let all : (k : ℕ) → k < n → 0 < ends_at begun k = λ k h. let x = ap (λ s. s.end) (single_each k h) in omega arith in
    sym (cond-false _ _ _
    (ap (λ n. complete_order n order) (sym c.stages-stages.ensures) ∙ complete_is n begun order sound all (omega arith)
    ∙ c.loop-j.invariant.3 ∙ follows_stops n c.loop-j.spans order i (omega arith) here))

pub returns-clause-answer : goal.returns-clause-answer
returns-clause-answer g c =
    let o = g.W.Weights.ops in
    let m = g.T.Trellis.meaning c.args.t.now in
    let w = g.T.Trellis.states in
    let n = c.stages-stages.result in
    let single_each : (k : ℕ) → k < n → span_at c.single_blocks.new.spans k ≡ record { end = k + 1; begin = k } = λ k h. c.single_blocks.ensures k (omega (arith, length-take-le n c.args.spans.now)) in
    let v = c.state_count-states.result in
    let order = c.args.order.now in
    let e = c.loop-j.spans in
    let tb = c.loop-j.table in
    let some = (g.T.Trellis.lawful c.args.t.now).some_stages in
    let is_n = c.stages-stages.ensures in
    let begun = c.single_blocks.new.spans in
    let sound = single n begun (omega arith) (omega (arith, length-take-le n c.args.spans.now)) single_each in
    let all : (k : ℕ) → k < n → 0 < ends_at begun k = λ k h. let x = ap (λ s. s.end) (single_each k h) in omega arith in
    let left = c.loop-j.invariant.2 in
    let whole : ends_at e 0 ≡ m.stages = one_left n e c.loop-j.invariant.0 (omega arith) ∙ c.stages-stages.ensures in
    let stands : Standing o w m n e tb = subst (λ v. Standing o v m n e tb) c.state_count-states.ensures c.loop-j.invariant.1 in
    let complete : complete_order m.stages order ≡ true =
    ap (λ n. complete_order n order) (sym c.stages-stages.ensures) ∙ complete_is n begun order sound all (omega arith)
    ∙ c.loop-j.invariant.3 ∙ follows_ends n e order c.loop-j.j-index (omega arith) in
    ap Some
    (c.first_to_last.ensures
    ∙ last_metastage g.met.W.Semiring.laws m (g.T.Trellis.lawful c.args.t.now) (take (v * v) tb)
    (λ x y small little.
    let zero_row = zero-mul (w * w) in
    let square : v * v ≡ w * w = ap (λ v. v * v) c.state_count-states.ensures in
    let room = entry_room x y w small little in
    let at : x * w + y ≡ stage_at 0 w 0 x y = omega arith in
    get_or-take (v * v) tb (x * w + y) o.none (omega arith) ∙ ap (λ p. get_or tb p o.none) at ∙ stands 0 (omega arith) (omega arith) x y small little ∙ ap (λ b. path_join o (across m 0 b x y)) whole))
    ∙ sym (cond-true (complete_order m.stages order) _ _ complete)

pub returns-then-not-is_open-clause-spans_front : goal.returns-then-not-is_open-clause-spans_front
returns-then-not-is_open-clause-spans_front g c whole =
    let n = c.stages-stages.result in
    let m = g.T.Trellis.meaning c.args.t.now in
    let long : length c.single_blocks.new.spans ≡ n = omega (arith, length-take-le n c.args.spans.now) in
    let single_each : (k : ℕ) → k < n → span_at c.single_blocks.new.spans k ≡ record { end = k + 1; begin = k } = λ k h. c.single_blocks.ensures k (omega (arith, length-take-le n c.args.spans.now)) in
    let start = single_is n c.single_blocks.new.spans long single_each in
    let size : length c.loop-j.spans ≡ n = omega (arith, length-take-le n c.args.spans.now) in
    let e = c.loop-j.spans in
    let order = c.args.order.now in
    let i = c.loop-j.j-index in
    let here : is_open n e (get_or order i 0) ≡ false = rw size at (sym c.if-not-is_open.ensures) in
    spans_left m.stages n c.stages-stages.ensures c.single_blocks.new.spans e order i start c.loop-j.invariant.5 (spans_stop n e order i (omega arith) here) size (drop n c.args.spans.now)

pub returns-then-not-is_open-clause-table_front : goal.returns-then-not-is_open-clause-table_front
returns-then-not-is_open-clause-table_front g c whole k x y h small little =
    let n = c.stages-stages.result in
    let m = g.T.Trellis.meaning c.args.t.now in
    let long : length c.single_blocks.new.spans ≡ n = omega (arith, length-take-le n c.args.spans.now) in
    let single_each : (k : ℕ) → k < n → span_at c.single_blocks.new.spans k ≡ record { end = k + 1; begin = k } = λ k h. c.single_blocks.ensures k (omega (arith, length-take-le n c.args.spans.now)) in
    let start = single_is n c.single_blocks.new.spans long single_each in
    let size : length c.loop-j.spans ≡ n = omega (arith, length-take-le n c.args.spans.now) in
    let e = c.loop-j.spans in
    let order = c.args.order.now in
    let i = c.loop-j.j-index in
    let here : is_open n e (get_or order i 0) ≡ false = rw size at (sym c.if-not-is_open.ensures) in
    let o = g.W.Weights.ops in
    let v = c.state_count-states.result in
    let made = c.loop-j.invariant.6 in
    ap (λ w. get_or c.loop-j.table (stage_at 0 w k x y) o.none) (sym c.state_count-states.ensures) ∙ made.1.1 k x y (omega arith) (omega arith) (omega arith)
    ∙ ap (λ b. path_join o (across m k b x y)) (ends_left m.stages n c.stages-stages.ensures c.single_blocks.new.spans e order i start made.0 k (made.1.0 k) (ends_stop n e order i made.0 k (omega arith) here))

pub returns-clause-spans_front : goal.returns-clause-spans_front
returns-clause-spans_front g c whole =
    let n = c.stages-stages.result in
    let m = g.T.Trellis.meaning c.args.t.now in
    let long : length c.single_blocks.new.spans ≡ n = omega (arith, length-take-le n c.args.spans.now) in
    let single_each : (k : ℕ) → k < n → span_at c.single_blocks.new.spans k ≡ record { end = k + 1; begin = k } = λ k h. c.single_blocks.ensures k (omega (arith, length-take-le n c.args.spans.now)) in
    let start = single_is n c.single_blocks.new.spans long single_each in
    let size : length c.loop-j.spans ≡ n = omega (arith, length-take-le n c.args.spans.now) in
    let e = c.loop-j.spans in
    let order = c.args.order.now in
    let i = c.loop-j.j-index in
    spans_left m.stages n c.stages-stages.ensures c.single_blocks.new.spans e order i start c.loop-j.invariant.5 (spans_end n e order i (omega arith)) size (drop n c.args.spans.now)

pub returns-clause-table_front : goal.returns-clause-table_front
returns-clause-table_front g c whole k x y h small little =
    let n = c.stages-stages.result in
    let m = g.T.Trellis.meaning c.args.t.now in
    let long : length c.single_blocks.new.spans ≡ n = omega (arith, length-take-le n c.args.spans.now) in
    let single_each : (k : ℕ) → k < n → span_at c.single_blocks.new.spans k ≡ record { end = k + 1; begin = k } = λ k h. c.single_blocks.ensures k (omega (arith, length-take-le n c.args.spans.now)) in
    let start = single_is n c.single_blocks.new.spans long single_each in
    let size : length c.loop-j.spans ≡ n = omega (arith, length-take-le n c.args.spans.now) in
    let e = c.loop-j.spans in
    let order = c.args.order.now in
    let i = c.loop-j.j-index in
    let o = g.W.Weights.ops in
    let v = c.state_count-states.result in
    let made = c.loop-j.invariant.6 in
    ap (λ w. get_or c.loop-j.table (stage_at 0 w k x y) o.none) (sym c.state_count-states.ensures) ∙ made.1.1 k x y (omega arith) (omega arith) (omega arith)
    ∙ ap (λ b. path_join o (across m k b x y)) (ends_left m.stages n c.stages-stages.ensures c.single_blocks.new.spans e order i start made.0 k (made.1.0 k) (ends_end n e order i made.0 k (omega arith)))

pub returns-then-not-is_open-clause-table_spare : goal.returns-then-not-is_open-clause-table_spare
returns-then-not-is_open-clause-table_spare g c whole =
    let n = c.stages-stages.result in
    let m = g.T.Trellis.meaning c.args.t.now in
    let long : length c.single_blocks.new.spans ≡ n = omega (arith, length-take-le n c.args.spans.now) in
    let single_each : (k : ℕ) → k < n → span_at c.single_blocks.new.spans k ≡ record { end = k + 1; begin = k } = λ k h. c.single_blocks.ensures k (omega (arith, length-take-le n c.args.spans.now)) in
    let start = single_is n c.single_blocks.new.spans long single_each in
    let size : length c.loop-j.spans ≡ n = omega (arith, length-take-le n c.args.spans.now) in
    let e = c.loop-j.spans in
    let order = c.args.order.now in
    let i = c.loop-j.j-index in
    let here : is_open n e (get_or order i 0) ≡ false = rw size at (sym c.if-not-is_open.ensures) in
    let o = g.W.Weights.ops in
    let old = c.args.table.now in
    let new = c.loop-j.table in
    let last = c.loop-j.invariant.7 in
    let P : ℕ → ℕ → Option ℕ → Type 0 = λ w n x. Spare o w n x old new in
    let v = c.state_count-states.result in
    let w = g.T.Trellis.states in
    subst (λ x. P w m.stages x) (last_left m.stages n c.stages-stages.ensures c.single_blocks.new.spans e order i start last.0 last.1.0 (last_stop n e order i last.0 (omega arith) here))
    (subst (λ n. P w n last.0) c.stages-stages.ensures (subst (λ w. P w n last.0) c.state_count-states.ensures last.1.1))

pub returns-clause-table_spare : goal.returns-clause-table_spare
returns-clause-table_spare g c whole =
    let n = c.stages-stages.result in
    let m = g.T.Trellis.meaning c.args.t.now in
    let long : length c.single_blocks.new.spans ≡ n = omega (arith, length-take-le n c.args.spans.now) in
    let single_each : (k : ℕ) → k < n → span_at c.single_blocks.new.spans k ≡ record { end = k + 1; begin = k } = λ k h. c.single_blocks.ensures k (omega (arith, length-take-le n c.args.spans.now)) in
    let start = single_is n c.single_blocks.new.spans long single_each in
    let size : length c.loop-j.spans ≡ n = omega (arith, length-take-le n c.args.spans.now) in
    let e = c.loop-j.spans in
    let order = c.args.order.now in
    let i = c.loop-j.j-index in
    let o = g.W.Weights.ops in
    let old = c.args.table.now in
    let new = c.loop-j.table in
    let last = c.loop-j.invariant.7 in
    let P : ℕ → ℕ → Option ℕ → Type 0 = λ w n x. Spare o w n x old new in
    let v = c.state_count-states.result in
    let w = g.T.Trellis.states in
    subst (λ x. P w m.stages x) (last_left m.stages n c.stages-stages.ensures c.single_blocks.new.spans e order i start last.0 last.1.0 (last_end n e order i last.0 (omega arith)))
    (subst (λ n. P w n last.0) c.stages-stages.ensures (subst (λ w. P w n last.0) c.state_count-states.ensures last.1.1))
