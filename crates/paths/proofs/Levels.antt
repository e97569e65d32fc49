-- How many metastages the levels have, that they fit, and which stages each metastage covers.
use Rattle.std.proofs.Common.{◌≡◌, ℕ, zero, suc, ◌+◌, ◌-◌, ◌*◌, ◌/◌, ◌%◌, ◌^◌, ◌<◌, ◌≤◌, min, sym, refl, ap, ◌∙◌, subst, ⊎_elim, mul-le-mul_right, mul_assoc, mul_comm, pow-suc, mul-one, arith}
use Rattle.std.proofs.lemmas.Bool.{cases_lt}
use Rattle.paths.specs.Metastages.{level_size, level_start, covers_from}
use Rattle.paths.specs.Laws.{LevelLaws}

pub size_zero : (n : ℕ) → level_size n 0 ≡ n
unfolding level_size
size_zero n = refl

pub size_suc : (n l : ℕ) → level_size n (suc l) ≡ (level_size n l + 1) / 2
unfolding level_size
size_suc n l = refl

pub start_zero : (n : ℕ) → level_start n 0 ≡ 0
unfolding level_start
start_zero n = refl

pub start_suc : (n l : ℕ) → level_start n (suc l) ≡ level_start n l + level_size n l
unfolding level_start
start_suc n l = refl

pub covers_suc : (n l j : ℕ) → covers_from n (suc l) j ≡ covers_from n l (2 * j)
unfolding covers_from
covers_suc n l j = refl

-- a stage covers itself
pub covers_stage : (n k : ℕ) → k ≤ n → covers_from n 0 k ≡ k
unfolding covers_from
covers_stage n k h = omega arith

pub covers_zero : (n l : ℕ) → covers_from n l 0 ≡ 0
unfolding covers_from
covers_zero n zero = omega arith
covers_zero n (suc l) = covers_zero n l

-- beyond the last metastage of a level no stage is left
pub covers_end : (n l j : ℕ) → level_size n l ≤ j → covers_from n l j ≡ n
unfolding level_size covers_from
covers_end n zero j h = omega arith
covers_end n (suc l) j h = covers_end n l (2 * j) (omega arith)

pub covers_up : (n l i j : ℕ) → i ≤ j → covers_from n l i ≤ covers_from n l j
unfolding covers_from
covers_up n zero i j h = omega arith
covers_up n (suc l) i j h = covers_up n l (2 * i) (2 * j) (omega arith)

pub covers_low : (n l j : ℕ) → covers_from n l j ≤ n
unfolding covers_from
covers_low n zero j = omega arith
covers_low n (suc l) j = covers_low n l (2 * j)

-- metastage j of a level covers what metastages 2 j and 2 j + 1 of the level below cover
pub pair_covers : (n l j : ℕ) → (covers_from n (suc l) j ≡ covers_from n l (2 * j)) × (covers_from n (suc l) (j + 1) ≡ covers_from n l (2 * j + 2))
pair_covers n l j = let e : 2 * (j + 1) ≡ 2 * j + 2 = omega arith in (covers_suc n l j, covers_suc n l (j + 1) ∙ ap (covers_from n l) e)

-- a last odd one covers the same one level up
pub odd_covers : (n l many : ℕ) → many ≡ level_size n l → many % 2 ≡ 1
    → (covers_from n (suc l) (many / 2) ≡ covers_from n l (many - 1)) × (covers_from n (suc l) (many / 2 + 1) ≡ covers_from n l many)
odd_covers n l many is odd =
    let e : 2 * (many / 2) ≡ many - 1 = omega arith in
    (covers_suc n l (many / 2) ∙ ap (covers_from n l) e, covers_suc n l (many / 2 + 1) ∙ covers_end n l (2 * (many / 2 + 1)) (omega arith) ∙ sym (covers_end n l many (omega arith)))

-- metastage j begins at stage j * 2^l
pub covers_closed : (n l j : ℕ) → covers_from n l j ≡ min (j * 2 ^ l) n
unfolding covers_from
covers_closed n zero j = ap (λ a. min a n) (sym (mul-one j))
covers_closed n (suc l) j = covers_closed n l (2 * j) ∙ ap (λ a. min a n) (turn j l)
  where
    turn : (j l : ℕ) → 2 * j * 2 ^ l ≡ j * 2 ^ suc l
    turn j l = ap (λ a. a * 2 ^ l) (mul_comm 2 j) ∙ mul_assoc j 2 (2 ^ l) ∙ ap (λ a. j * a) (mul_comm 2 (2 ^ l) ∙ sym (pow-suc 2 l))

-- what the levels below l take, and twice level l
pub levels_take : (n l : ℕ) → level_start n l + 2 * level_size n l ≤ 2 * n + l
unfolding level_size level_start
levels_take n zero = omega arith
levels_take n (suc l) = let h = levels_take n l in omega arith

halves : (n l k : ℕ) → level_size n l ≤ 2 * k → level_size n (suc l) ≤ k
unfolding level_size
halves n l k h = omega arith

-- once one is left, one is left on every level above
pub stays_one : (n l d : ℕ) → level_size n l ≤ 1 → level_size n (d + l) ≤ 1
stays_one n l zero h = subst (λ a. level_size n a ≤ 1) (let e : l ≡ 0 + l = omega arith in e) h
stays_one n l (suc d) h = let k = stays_one n l d h in subst (λ a. level_size n a ≤ 1) (let e : suc (d + l) ≡ suc d + l = omega arith in e) (halves n (d + l) 1 (omega arith))

-- 16,384 stages: halved l times
halved : (n l d k : ℕ) → level_size n l ≤ k * 2 ^ d → level_size n (d + l) ≤ k
halved n l zero k h = let e : l ≡ 0 + l = omega arith in subst (λ a. level_size n a ≤ k) e (omega arith)
halved n l (suc d) k h =
    let e : suc (d + l) ≡ suc d + l = omega arith in
    let f : k * 2 ^ suc d ≡ 2 * k * 2 ^ d = ap (λ a. k * a) (pow-suc 2 d ∙ mul_comm (2 ^ d) 2) ∙ sym (mul_assoc k 2 (2 ^ d)) ∙ ap (λ a. a * 2 ^ d) (mul_comm k 2) in
    let g = halved n l d (2 * k) (omega arith) in
    subst (λ a. level_size n a ≤ k) e (halves n (d + l) k g)

pub few_levels : (n l : ℕ) → n ≤ 16384 → 14 ≤ l → level_size n l ≤ 1
few_levels n l h high =
    let e : l - 14 + 14 ≡ l = omega arith in
    subst (λ a. level_size n a ≤ 1) e (stays_one n 14 (l - 14) (halved n 0 14 1 (let z = size_zero n in omega arith)))

pub below_fourteen : (n l : ℕ) → n ≤ 16384 → 1 < level_size n l → l < 14
below_fourteen n l h many = ⊎_elim (λ k. k) (λ k. let z = few_levels n l h k in absurd (omega arith)) (cases_lt l 14)

-- a level that has more than one, with the next, fits
pub levels_fit : (n l : ℕ) → n ≤ 16384 → 1 < level_size n l → level_start n l + level_size n l + level_size n (suc l) ≤ 2 * n + 14
levels_fit n l h many = let a = levels_take n l in let b = below_fourteen n l h many in let c = size_suc n l in omega arith

-- a level ends before the one above a later one begins
pub level_ends : (n i l : ℕ) → i ≤ l → level_start n i + level_size n i ≤ level_start n (suc l)
level_ends n i zero h = let e : i ≡ 0 = omega arith in let z = start_suc n 0 in subst (λ a. level_start n a + level_size n a ≤ level_start n 1) (sym e) (omega arith)
level_ends n i (suc l) h =
    let y = start_suc n (suc l) in
    ⊎_elim (λ k. let a = level_ends n i l (omega arith) in omega arith)
    (λ k. let e : i ≡ suc l = omega arith in subst (λ a. level_start n a + level_size n a ≤ level_start n (suc (suc l))) (sym e) (omega arith))
    (cases_lt i (suc l))

pub level_laws : LevelLaws
level_laws = record {
  fits = λ n l states few one. mul-le-mul_right (states * states) (let t = levels_take n l in let s = start_suc n l in omega arith);
  fourteen = few_levels;
  begins = covers_closed;
  ends = λ n l. covers_end n l (level_size n l) (omega arith);
}
