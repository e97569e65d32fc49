-- Each way leaves its own table.
use Rattle.std.proofs.Common.{◌≡◌, ℕ, ◌*◌, ◌<◌, length, get_or, refl, ap, ◌∙◌, inl, arith}
use Rattle.std.proofs.lemmas.List.{get_or_default}
use Rattle.paths.specs.Metastages.{metastage_at}
use Rattle.paths.specs.Least.{top}
use Rattle.passes.proofs.Rows.{row_more}
use Rattle.ways.specs.declared.names.Way.TheVariants.{Columns, Metastages, Modular}
use Rattle.ways.proofs.Entries.{Entries, renamed, whole_entry, whole_table}
use Rattle.ways.proofs.Kept.{least_forth, least_back, modular_forth, modular_back, served}
use Rattle.ways.proofs.LastLevel.{last_is}
use Rattle.ways.proofs.Behind.{end_room, metastages_behind}
use Rattle.ways.proofs.tables.work.Goals as goal
use Rattle.ways.proofs.tables.work.Goals.{in-Columns, in-Metastages, in-Modular}

pub place_of-used-requires : goal.place_of-used-requires
place_of-used-requires g c =
    let w = g.T.Trellis.states in
    let n = (g.T.Trellis.meaning c.args.t.now).stages in
    let law = g.T.Trellis.lawful c.args.t.now in
    let fs = law.few_states in
    let fn = law.few_stages in
    let base = c.sweep-base.result in
    let l = c.levels-level.result in
    let is = c.sweep-base.ensures.base in
    let room = end_room n l (w * w) c.levels-level.ensures.few c.levels-level.ensures.one in
    let at = ap (λ v. metastage_at base v c.stages.result l 1) c.state_count.ensures ∙ ap (λ n. metastage_at base w n l 1) c.stages.ensures in
    record { few = (omega arith, omega arith, c.levels-level.ensures.few, omega arith); fits = omega arith }

pub zero_from-requires : goal.zero_from-requires
zero_from-requires g c =
    let law = g.T.Trellis.lawful c.args.t.now in
    let v = g.T.Trellis.states in
    let n = (g.T.Trellis.meaning c.args.t.now).stages in
    elim c.match-way.branch [
      | in-Columns w ↦ let is = w.sweep-used.ensures.base in omega arith
      | in-Metastages w ↦
          let l = w.levels-level.result in
          let base = w.sweep-base.result in
          let is = w.sweep-base.ensures.base in
          let room = end_room n l (v * v) w.levels-level.ensures.few w.levels-level.ensures.one in
          let at = w.place_of-used.ensures ∙ ap (λ v. metastage_at base v w.stages.result l 1) w.state_count.ensures ∙ ap (λ n. metastage_at base v n l 1) w.stages.ensures in
          omega arith
      | in-Modular w ↦ let is = w.sweep-used-in-Modular.ensures.base in omega arith
    ]

pub returns : goal.returns
returns g c =
    let way = c.args.way in
    let v = g.T.Trellis.states in
    let m = g.T.Trellis.meaning c.args.t.now in
    let n = m.stages in
    let law = g.T.Trellis.lawful c.args.t.now in
    let new = c.zero_from.new.table in
    let end = c.match-way.used in
    let more = row_more n v in
    let made : Entries way v m new = elim c.match-way.branch [
      | in-Columns w ↦
          let old = w.sweep-used.new.table in
          let is = w.sweep-used.ensures.base in
          let same : (p : ℕ) → p < end → get_or new p 0 ≡ get_or old p 0 = λ p h. c.zero_from.ensures.kept p h ∙ ap (λ tb. get_or tb p 0) w.table-is in
          renamed way Columns v m new w.in-Columns.is
          (whole_entry Columns v m new law.some_states
          (least_forth v m old new end (omega (arith, ap length w.table-is)) (omega arith) same _ _ law Columns (λ x. refl) w.sweep-used.ensures.forth)
          (least_back v m old new end (omega (arith, ap length w.table-is)) (omega arith) same _ _ law Columns (λ x. refl) w.sweep-used.ensures.back)
          (λ p h within. c.zero_from.ensures.zero p (omega arith) within))
      | in-Metastages w ↦
          let base = w.sweep-base.result in
          let l = w.levels-level.result in
          let old = w.sweep-base.new.table in
          let mid = w.levels-level.new.table in
          let is = w.sweep-base.ensures.base in
          let one = w.levels-level.ensures.one in
          let long = ap length w.table-is in
          let at : end ≡ metastage_at base v n l 1 =
          w.used-is ∙ w.place_of-used.ensures ∙ ap (λ v. metastage_at base v w.stages.result l 1) w.state_count.ensures ∙ ap (λ n. metastage_at base v n l 1) w.stages.ensures in
          let mids : (p : ℕ) → p < end → get_or new p 0 ≡ get_or mid p 0 = λ p h. c.zero_from.ensures.kept p h ∙ ap (λ tb. get_or tb p 0) w.table-is in
          let same : (p : ℕ) → p < base → get_or new p 0 ≡ get_or old p 0 = λ p h.
          mids p (omega arith)
          ∙ get_or_default mid p 0 top (omega arith)
          ∙ w.levels-level.ensures.kept p (inl (omega arith))
          ∙ get_or_default old p top 0 (omega arith) in
          renamed way Metastages v m new w.in-Metastages.is
          (whole_entry Metastages v m new law.some_states
          (least_forth v m old new base (omega arith) (omega arith) same _ _ law Metastages (λ x. refl) w.sweep-base.ensures.forth)
          (least_back v m old new base (omega arith) (omega arith) same _ _ law Metastages (λ x. refl) w.sweep-base.ensures.back)
          (metastages_behind v m base l mid new law.some_states (last_is n l w.levels-level.ensures.few one w.levels-level.ensures.first) one w.levels-level.ensures.made (omega arith)
          (λ p h. mids p (omega arith))
          (λ p h within. c.zero_from.ensures.zero p (omega arith) within)
          (omega arith)))
      | in-Modular w ↦
          let old = w.sweep-used-in-Modular.new.table in
          let is = w.sweep-used-in-Modular.ensures.base in
          let served_here = c.requires.served w.in-Modular.is in
          let serves = served v g.T.Trellis.ceiling _ g.T.Trellis.reach m law (g.T.Trellis.reaches c.args.t.now) served_here.0 served_here.1 in
          let same : (p : ℕ) → p < end → get_or new p 0 ≡ get_or old p 0 = λ p h. c.zero_from.ensures.kept p h ∙ ap (λ tb. get_or tb p 0) w.table-is in
          renamed way Modular v m new w.in-Modular.is
          (whole_entry Modular v m new law.some_states
          (modular_forth v m old new end (omega (arith, ap length w.table-is)) (omega arith) same _ _ _ serves w.sweep-used-in-Modular.ensures.forth)
          (modular_back v m old new end (omega (arith, ap length w.table-is)) (omega arith) same _ _ _ serves w.sweep-used-in-Modular.ensures.back)
          (λ p h within. c.zero_from.ensures.zero p (omega arith) within))
    ] in
    record { table = made; whole = whole_table way v m new (length c.args.table.now) (omega arith) made }
