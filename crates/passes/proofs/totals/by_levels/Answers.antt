use Rattle.std.proofs.Common.{ℕ, ◌≤◌, length, ◌≡◌, ◌+◌, ◌*◌, get_or, ap, ◌∙◌, arith}
use Rattle.std.proofs.lemmas.List.Edits.{get_or-between}
use Rattle.std.specs.Prelude.{slice_range}
use Rattle.paths.specs.Metastages.{level_size, metastage_at}
use Rattle.paths.proofs.Covered.{all_covered}
use Rattle.passes.specs.Levels.{levels_room}
use Rattle.passes.proofs.Rooms.{entry_room}
use Rattle.passes.proofs.Fills.{room_last}
use Rattle.passes.proofs.Sums.{last_metastage}
use Rattle.passes.proofs.totals.by_levels.Goals as goal

pub place_of-place-requires : goal.place_of-place-requires
place_of-place-requires g c =
    let w = g.T.Trellis.states in
    let n = (g.T.Trellis.meaning c.args.t.now).stages in
    let law = g.T.Trellis.lawful c.args.t.now in
    let fs = law.few_states in
    let fn = law.few_stages in
    let r = room_last n c.args.level (w * w) c.requires.few c.requires.one in
    let at = ap (λ v. metastage_at c.args.base v c.stages.result c.args.level 0) c.state_count-states.ensures ∙ ap (λ n. metastage_at c.args.base w n c.args.level 0) c.stages.ensures in
    record { few = (omega arith, omega arith, omega arith, omega arith); fits = omega arith }

-- the one that is left lies within the table
last_room : (base w v n j l place many : ℕ) → v ≡ w → j ≡ n → place ≡ metastage_at base v j l 0 → l ≤ 14 → level_size n l ≡ 1 → base + levels_room w n ≤ many → place + v * v ≤ many
last_room base w v n j l place many is stages at few one room =
    let r = room_last n l (w * w) few one in
    let square = ap (λ v. v * v) is in
    let there = at ∙ ap (λ v. metastage_at base v j l 0) is ∙ ap (λ n. metastage_at base w n l 0) stages in
    omega arith

pub overflow_add-place : goal.overflow_add-place
overflow_add-place g c =
    let r = last_room c.args.base g.T.Trellis.states _ (g.T.Trellis.meaning c.args.t.now).stages _ c.args.level _ (length c.args.table.now) c.state_count-states.ensures c.stages.ensures c.place_of-place.ensures c.requires.few c.requires.one c.requires.room in
    omega arith

pub offset_bounds-table-place : goal.offset_bounds-table-place
offset_bounds-table-place g c =
    let r = last_room c.args.base g.T.Trellis.states _ (g.T.Trellis.meaning c.args.t.now).stages _ c.args.level _ (length c.args.table.now) c.state_count-states.ensures c.stages.ensures c.place_of-place.ensures c.requires.few c.requires.one c.requires.room in
    omega arith

pub slice_bounds-first_to_last-end : goal.slice_bounds-first_to_last-end
slice_bounds-first_to_last-end g c =
    let r = last_room c.args.base g.T.Trellis.states _ (g.T.Trellis.meaning c.args.t.now).stages _ c.args.level _ (length c.args.table.now) c.state_count-states.ensures c.stages.ensures c.place_of-place.ensures c.requires.few c.requires.one c.requires.room in
    omega arith

pub returns : goal.returns
returns g c =
    let o = g.W.Weights.ops in
    let laws = g.met.W.Semiring.laws in
    let w = g.T.Trellis.states in
    let m = g.T.Trellis.meaning c.args.t.now in
    let l = c.args.level in
    let tb = c.args.table.now in
    let at : c.place_of-place.result ≡ metastage_at c.args.base w m.stages l 0 =
    c.place_of-place.ensures ∙ ap (λ v. metastage_at c.args.base v c.stages.result l 0) c.state_count-states.ensures ∙ ap (λ n. metastage_at c.args.base w n l 0) c.stages.ensures in
    let one = c.requires.one in
    let place = c.place_of-place.result in
    let v = c.state_count-states.result in
    let square : v * v ≡ w * w = ap (λ v. v * v) c.state_count-states.ensures in
    c.first_to_last.ensures
    ∙ last_metastage laws m (g.T.Trellis.lawful c.args.t.now) (slice_range tb place (place + v * v))
    (λ x y small little. get_or-between tb place (place + v * v) (x * w + y) o.none (let e = entry_room x y w small little in omega arith)
    ∙ ap (λ a. get_or tb (a + (x * w + y)) o.none) at ∙ c.requires.made l (omega arith) 0 x y (omega arith) small little ∙ all_covered laws m l x y c.requires.one)
