use Rattle.std.proofs.Common.{◌≡◌, ◌+◌, ◌-◌, ◌++◌, length, sym, ap, ◌∙◌, subst, arith, length-append, length-drop}
use borrow.Rule.Slice.PartMut.{put_mid, post_of}
use Rattle.plans.specs.Plans.{symbols}
use Rattle.cost_file.specs.Records.{packed}
use Rattle.cost_file.specs.Files.{plan_body}
use Rattle.cost_file.specs.Promises.{kept, Laid}
use Rattle.cost_file.proofs.Laying.{fitting, rows_room, payload_room, Begun, begun, laid_rows, laid_payload}
use Rattle.cost_file.proofs.Packing.{length_packed}
use Rattle.cost_file.proofs.writer.Contents.lay.Goals as goal

pub slice_bounds-pack-end : goal.slice_bounds-pack-end
slice_bounds-pack-end c =
    let r = rows_room (kept c.args.self.now.plan.values c.args.self.now.rows.now c.args.self.now.payload) (length c.args.out.now) c.args.self.now.fits c.requires in
    omega arith

pub put_rows-requires : goal.put_rows-requires
put_rows-requires c =
    let all = kept c.args.self.now.plan.values c.args.self.now.rows.now c.args.self.now.payload in
    let r = rows_room all (length c.args.out.now) c.args.self.now.fits c.requires in
    let l : length c.pack.new.part ≡ 16 = ap length (c.pack.ensures.value ∙ ap (packed 1 0) c.body_of.ensures.value) ∙ length_packed 1 0 (plan_body c.args.self.now.plan.values) in
    simp (length-append, length-drop) (omega arith)

pub slice_bounds-pack-end-in-Some : goal.slice_bounds-pack-end-in-Some
slice_bounds-pack-end-in-Some c =
    let r = payload_room c.args.self.now.plan.values c.args.self.now.rows.now c.args.self.now.payload c.in-Some.body (length c.args.out.now) c.args.self.now.fits c.requires c.in-Some.is in
    omega (arith, c.rows_end-end.ensures.value)

pub returns-in-Some : goal.returns-in-Some
returns-in-Some c =
    let v = c.args.self.now.plan.values in
    let rows = c.args.self.now.rows.now in
    let was = c.args.out.now in
    let all = kept v rows c.args.self.now.payload in
    let end = c.rows_end-end.result in
    let body = c.in-Some.body.now in
    let is = put_mid end (end + length body + 8 - end) c.put_rows.new.out c.pack-in-Some.new.part in
    let r = payload_room v rows c.args.self.now.payload c.in-Some.body (length was) c.args.self.now.fits c.requires c.in-Some.is in
    let b : Begun v was (c.pack.new.part ++ post_of 0 16 was) = begun v was c.pack.new.part (omega arith) (c.pack.ensures.value ∙ ap (packed 1 0) c.body_of.ensures.value) in
    let last : c.pack-in-Some.new.part ≡ packed 3 (symbols v + 1) body = c.pack-in-Some.ensures.value ∙ ap (λ n. packed 3 (n + 1) body) c.symbols.ensures.value in
    let l : Laid all was is = subst (λ o. Laid (kept v rows o) was is) (sym c.in-Some.is)
    (laid_payload v rows body was (c.pack.new.part ++ post_of 0 16 was) c.put_rows.new.out c.pack-in-Some.new.part end
    (fitting all c.args.self.now.fits).0 b c.put_rows.ensures.front c.put_rows.ensures.tail c.rows_end-end.ensures.value (omega (arith, c.rows_end-end.ensures.value)) last) in
    record { after = l }

pub returns-in_default : goal.returns-in_default
returns-in_default c =
    let v = c.args.self.now.plan.values in
    let rows = c.args.self.now.rows.now in
    let all = kept v rows c.args.self.now.payload in
    let r = rows_room all (length c.args.out.now) c.args.self.now.fits c.requires in
    let b : Begun v c.args.out.now (c.pack.new.part ++ post_of 0 16 c.args.out.now) = begun v c.args.out.now c.pack.new.part (omega arith) (c.pack.ensures.value ∙ ap (packed 1 0) c.body_of.ensures.value) in
    let l : Laid (kept v rows c.args.self.now.payload) c.args.out.now c.put_rows.new.out = subst (λ o. Laid (kept v rows o) c.args.out.now c.put_rows.new.out) (sym c.in_default.is)
    (laid_rows v rows c.args.out.now (c.pack.new.part ++ post_of 0 16 c.args.out.now) c.put_rows.new.out (fitting all c.args.self.now.fits).0 b c.put_rows.ensures.front c.put_rows.ensures.tail) in
    record { after = l }
