-- What lies behind the columns: the metastages of all levels, and then nothing.
use Rattle.std.proofs.Common.{◌≡◌, ℕ, suc, ◌+◌, ◌-◌, ◌*◌, ◌/◌, ◌%◌, ◌<◌, ◌≤◌, ltb, List, length, get_or, sym, ap, ◌∙◌, ⊎_elim, arith}
use Rattle.std.proofs.lemmas.List.{get_or_default}
use Rattle.std.proofs.lemmas.Bool.{cases_lt, cond-true, cond-false, lt-ltb, le-ltb}
use Rattle.std.proofs.lemmas.Nat.{div-add-mod', div_below, mod_below, mul-le}
use Rattle.paths.specs.Trellises.{Meaning}
use Rattle.paths.specs.Metastages.{level_size, level_start, metastage_at}
use Rattle.paths.specs.Least.{least, top}
use Rattle.paths.proofs.Levels.{start_suc, levels_take}
use Rattle.passes.specs.Levels.{Levels}
use Rattle.passes.proofs.Rows.{row_under, rows}
use Rattle.ways.specs.declared.names.Way.TheVariants.{Metastages}
use Rattle.ways.specs.WorkTables.{Range, column_entries, last_level, all_ranges, range_entry}
use Rattle.ways.proofs.Ranges.{Place, place}
use Rattle.ways.proofs.LastLevel.{all_long, all_at}
use Rattle.ways.proofs.Entries.{Behind}

-- the last metastage ends within the room
pub end_room : (n l q : ℕ) → l ≤ 14 → level_size n l ≡ 1 → (level_start n l + 1) * q ≤ (2 * n + 14) * q
end_room n l q few one = rows (level_start n l + 1) (2 * n + 14) q (let t = levels_take n l in omega arith)

-- no range, for a place beyond the list
abbrev no_range : Range
no_range = record { first = 0; past = 0 }

-- levels up to r stand in the first table, which the second repeats up to the end of the last; then all is 0
module _ (states : ℕ) (m : Meaning) (base r : ℕ) (old new : List ℕ) (some : 1 ≤ states) (last : last_level m.stages ≡ r) (one : level_size m.stages r ≡ 1)
    (made : Levels least states m base r old) (long : length new ≡ length old)
    (same : (p : ℕ) → p < metastage_at base states m.stages r 1 → get_or new p 0 ≡ get_or old p 0)
    (zero : (p : ℕ) → metastage_at base states m.stages r 1 ≤ p → p < length new → get_or new p 0 ≡ 0) where
  -- entry e of the metastage at place x
  range_stands : (p x e : ℕ) → p < length old → p ≡ base + x * (states * states) + e → e < states * states → x < level_start m.stages (suc r)
      → get_or old p 0 ≡ range_entry states m (get_or (all_ranges m.stages) x no_range) e
  range_stands p x e within is small low =
      let n = m.stages in
      let at : Place n (suc r) x = place n (suc r) x low in
      let l = at.level in
      let j = at.index in
      let row = div_below e states states (omega arith) small in
      let col = mod_below e states (omega arith) in
      let parts = div-add-mod' e states in
      let begins = ap (λ a. a * (states * states)) at.is in
      let there : p ≡ metastage_at base states n l j + (e / states * states + e % states) = omega arith in
      let below = at.low in
      get_or_default old p 0 top within
      ∙ ap (λ a. get_or old a top) there
      ∙ made l (omega arith) j (e / states) (e % states) at.small row col
      ∙ ap (λ range. range_entry states m range e) (sym (ap (λ a. get_or (all_ranges n) a no_range) at.is ∙ all_at n r l j no_range last at.low at.small))

  pub metastages_behind : base ≡ 2 * column_entries states m → Behind Metastages states m new
  metastages_behind is p h within =
      let n = m.stages in
      let Q = states * states in
      let q = p - 2 * column_entries states m in
      let some_square : 1 * 1 ≤ Q = mul-le 1 1 states states some some in
      let N = length (all_ranges n) in
      let many = all_long n r last in
      let next = start_suc n r in
      let end : metastage_at base states n r 1 ≡ base + N * Q = ap (λ a. base + a * Q) (let z : level_start n r + 1 ≡ N = omega arith in z) in
      let parts = div-add-mod' q Q in
      let small = mod_below q Q (omega arith) in
      ⊎_elim
      (λ lt.
      let under = row_under (q / Q) N Q lt in
      same p (omega arith)
      ∙ range_stands p (q / Q) (q % Q) (omega arith) (omega arith) small (omega arith)
      ∙ sym (cond-true (ltb (q / Q) N) _ _ (lt-ltb (q / Q) N lt)))
      (λ ge.
      let over = rows N (q / Q) Q ge in
      zero p (omega arith) within ∙ sym (cond-false (ltb (q / Q) N) _ _ (le-ltb (q / Q) N ge)))
      (cases_lt (q / Q) N)
