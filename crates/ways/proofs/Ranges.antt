-- The ranges of all metastages, level after level: where each one stands in the list.
use Rattle.std.proofs.Common.{◌≡◌, ℕ, zero, suc, ◌+◌, ◌-◌, ◌<◌, ◌≤◌, List, [], ◌∷◌, ◌++◌, length, get_or, sym, ap, ◌∙◌, ⊎_elim, map-id, add-one, arith, length-append}
use Rattle.std.specs.List.{range_with_len, flat_map}
use Rattle.std.proofs.lemmas.List.{flat_map_more, get_or_append_left, get_or-append_right}
use Rattle.std.proofs.lemmas.List.FromFn.{length-map-range_with_len, get_or-map-range_with_len, map-range_with_len_more}
use Rattle.std.proofs.lemmas.Bool.{cases_lt}
use Rattle.paths.specs.Metastages.{level_size, level_start, covers_from}
use Rattle.paths.proofs.Levels.{start_zero, start_suc, level_ends}
use Rattle.ways.specs.WorkTables.{Range, level_ranges}

-- the range that metastage j of level l covers
abbrev pub range_of : ℕ → ℕ → ℕ → Range
range_of n l j = record { first = covers_from n l j; past = covers_from n l (j + 1) }

-- the ranges of the first k levels
abbrev pub ranges_below : ℕ → ℕ → List Range
ranges_below n k = flat_map (level_ranges n) (range_with_len 0 k)

counting_more : (k : ℕ) → range_with_len 0 (k + 1) ≡ range_with_len 0 k ++ k ∷ []
counting_more k =
    sym (map-id (range_with_len 0 (k + 1))) ∙ map-range_with_len_more (λ x. x) 0 k k (omega arith) ∙ ap (λ xs. xs ++ k ∷ []) (map-id (range_with_len 0 k))

ranges_more : (n k : ℕ) → ranges_below n (k + 1) ≡ ranges_below n k ++ level_ranges n k
ranges_more n k = ap (flat_map (level_ranges n)) (counting_more k) ∙ sym (flat_map_more (level_ranges n) [] (range_with_len 0 k) k)

ranges_suc : (n k : ℕ) → ranges_below n (suc k) ≡ ranges_below n k ++ level_ranges n k
ranges_suc n k = ap (ranges_below n) (sym (add-one k)) ∙ ranges_more n k

level_long : (n l : ℕ) → length (level_ranges n l) ≡ level_size n l
level_long n l = length-map-range_with_len (range_of n l) 0 (level_size n l)

pub ranges_long : (n k : ℕ) → length (ranges_below n k) ≡ level_start n k
ranges_long n zero = sym (start_zero n)
ranges_long n (suc k) =
    ap length (ranges_suc n k) ∙ length-append (ranges_below n k) (level_ranges n k)
    ∙ ap (λ a. a + length (level_ranges n k)) (ranges_long n k) ∙ ap (λ a. level_start n k + a) (level_long n k) ∙ sym (start_suc n k)

-- a level ends before a later one begins
level_before : (n l k : ℕ) → l < k → level_start n l + level_size n l ≤ level_start n k
level_before n l zero h = absurd (omega arith)
level_before n l (suc k) h = level_ends n l k (omega arith)

-- metastage j of level l stands behind those of the levels below
pub range_at : (n k l j : ℕ) (d : Range) → l < k → j < level_size n l → get_or (ranges_below n k) (level_start n l + j) d ≡ range_of n l j
range_at n zero l j d h small = absurd (omega arith)
range_at n (suc k) l j d h small =
    ap (λ xs. get_or xs (level_start n l + j) d) (ranges_suc n k)
    ∙ ⊎_elim
    (λ lt.
    let long = ranges_long n k in
    let before = level_before n l k lt in
    get_or_append_left (ranges_below n k) (level_ranges n k) d (level_start n l + j) (omega arith) ∙ range_at n k l j d lt small)
    (λ ge.
    let e : l ≡ k = omega arith in
    let f = ap (level_start n) e in
    let rest : level_start n l + j - level_start n k ≡ j = omega arith in
    get_or-append_right (ranges_below n k) (level_ranges n k) (level_start n k) (level_start n l + j) d (ranges_long n k) (omega arith)
    ∙ ap (λ a. get_or (level_ranges n k) a d) rest
    ∙ ap (λ a. get_or (level_ranges n a) j d) (sym e)
    ∙ get_or-map-range_with_len (range_of n l) 0 (level_size n l) j j d small (omega arith))
    (cases_lt l k)

-- place x of the list is that of a metastage of a level below k
pub record Place (n k x : ℕ) : Type 0 where
  pub level : ℕ
  pub index : ℕ
  pub low : level < k
  pub small : index < level_size n level
  pub is : x ≡ level_start n level + index

pub place : (n k x : ℕ) → x < level_start n k → Place n k x
place n zero x h = let z = start_zero n in absurd (omega arith)
place n (suc k) x h =
    let s = start_suc n k in
    ⊎_elim
    (λ lt. let p = place n k x lt in record { level = p.level; index = p.index; low = (let l = p.low in omega arith); small = p.small; is = p.is })
    (λ ge. record { level = k; index = x - level_start n k; low = omega arith; small = omega arith; is = omega arith })
    (cases_lt x (level_start n k))
