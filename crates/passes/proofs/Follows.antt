-- An order is followed to its end just if it is complete.
use Rattle.std.proofs.Common.{◌≡◌, ℕ, suc, ◌+◌, ◌-◌, ◌<◌, ◌≤◌, Bool, true, false, not, ◌&&◌, ◌||◌, eqb, ltb, List, [], ◌∷◌, length, get_or, drop, sym, refl, ap, ◌∙◌, ⊎_elim, add-one, arith, drop_of_length-le, drop-cons}
use mathlib.Core.Bool.{and-true, and-false}
use Rattle.std.proofs.lemmas.Bool.{cases_eq, cases_Bool, eq-eqb, ne_eqb, lt-ltb, le-ltb, ltb-true, ltb-false, and_parts}
use Rattle.passes.specs.declared.orders.Span.{Span}
use Rattle.passes.specs.Orders.{within, stands_in, none_twice, complete_order, ends_at, is_open, made_one}
use Rattle.passes.proofs.Blocks.{Blocks, at_boundary, stays_open, was_open, one_sound}

-- one boundary after another is open when its turn comes
unfoldable pub follows : ℕ → List Span → List ℕ → Bool
follows n e [] = true
follows n e (x ∷ xs) = is_open n e x && follows n (made_one e x) xs

all_open : List Span → List ℕ → Bool
all_open e [] = true
all_open e (x ∷ xs) = ltb 0 (ends_at e x) && all_open e xs

pub open_parts : (n : ℕ) (e : List Span) (j : ℕ) → is_open n e j ≡ true → (0 < j) × (j < n) × (0 < ends_at e j)
open_parts n e j h =
    let x = and_parts (ltb 0 j) (ltb j n && ltb 0 (ends_at e j)) h in
    let y = and_parts (ltb j n) (ltb 0 (ends_at e j)) x.1 in
    (ltb-true 0 j x.0, ltb-true j n y.0, ltb-true 0 (ends_at e j) y.1)

module _ (n : ℕ) (e : List Span) (sound : Blocks n e) (j : ℕ) (some : 0 < j) (low : j < n) (open-here : 0 < ends_at e j) where
  -- what is open after one step
  pub open_after : (p : ℕ) → p < n → ltb 0 (ends_at (made_one e j) p) ≡ (not (eqb j p) && ltb 0 (ends_at e p))
  open_after p h =
      ⊎_elim
      (λ q.
      let z = at_boundary n e sound j some low open-here in
      let y = ap (ends_at (made_one e j)) q in
      le-ltb 0 (ends_at (made_one e j) p) (omega arith) ∙ sym (ap (λ b. not b && ltb 0 (ends_at e p)) (eq-eqb j p q)))
      (λ q.
      ⊎_elim
      (λ b. lt-ltb 0 (ends_at (made_one e j) p) (stays_open n e sound j some low open-here p h (λ r. q (sym r)) (ltb-true 0 (ends_at e p) b)) ∙ sym b)
      (λ b.
      ⊎_elim
      (λ d. let x = was_open n e sound j some low open-here p h (ltb-true 0 (ends_at (made_one e j) p) d) in let y = ltb-false 0 (ends_at e p) b in absurd (omega arith))
      (λ d. d ∙ sym b)
      (cases_Bool (ltb 0 (ends_at (made_one e j) p))))
      (cases_Bool (ltb 0 (ends_at e p)))
      ∙ sym (ap (λ b. not b && ltb 0 (ends_at e p)) (ne_eqb j p q)))
      (cases_eq j p)

  shuffle : (a b c d : Bool) → ((not a && b) && (not c && d)) ≡ (not (a || c) && (b && d))
  shuffle true b c d = refl
  shuffle false true c d = refl
  shuffle false false c d = sym (and-false (not c))

  all_after : (xs : List ℕ) → within n xs ≡ true → all_open (made_one e j) xs ≡ (not (stands_in j xs) && all_open e xs)
  unfolding within stands_in all_open
  all_after [] h = refl
  all_after (x ∷ xs) h =
      let p = and_parts (ltb 0 x && ltb x n) (within n xs) h in
      let l = ltb-true x n (and_parts (ltb 0 x) (ltb x n) p.0).1 in
      ap (λ b. b && all_open (made_one e j) xs) (open_after x l) ∙ ap (λ b. (not (eqb j x) && ltb 0 (ends_at e x)) && b) (all_after xs p.1)
      ∙ shuffle (eqb j x) (ltb 0 (ends_at e x)) (stands_in j xs) (all_open e xs)

regroup : (b c d : Bool) → (b && (c && d)) ≡ ((c && b) && d)
regroup true true d = refl
regroup true false d = refl
regroup false true d = refl
regroup false false d = refl

-- followed: every entry a boundary, none twice, and all open at first
follows_from : (n : ℕ) (e : List Span) (xs : List ℕ) → Blocks n e → follows n e xs ≡ (within n xs && (none_twice xs && all_open e xs))
unfolding follows within none_twice all_open
follows_from n e [] sound = refl
follows_from n e (x ∷ xs) sound =
    ⊎_elim
    (λ p. ⊎_elim
    (λ l. ⊎_elim
    (λ o.
    let P = ltb-true 0 x p in
    let L = ltb-true x n l in
    let O = ltb-true 0 (ends_at e x) o in
    let rest = follows_from n (made_one e x) xs (one_sound n e sound x P L O) in
    let now : is_open n e x ≡ true = ap (λ b. b && (ltb x n && ltb 0 (ends_at e x))) p ∙ ap (λ b. b && ltb 0 (ends_at e x)) l ∙ o in
    ap (λ b. b && follows n (made_one e x) xs) now ∙ rest
    ∙ ⊎_elim
    (λ w.
    ap (λ b. within n xs && (none_twice xs && b)) (all_after n e sound x P L O xs w)
    ∙ ap (λ b. within n xs && b) (regroup (none_twice xs) (not (stands_in x xs)) (all_open e xs)))
    (λ w. ap (λ b. b && (none_twice xs && all_open (made_one e x) xs)) w ∙ sym (ap (λ b. b && ((not (stands_in x xs) && none_twice xs) && all_open e xs)) w))
    (cases_Bool (within n xs))
    ∙ sym (ap (λ b. ((b && ltb x n) && within n xs) && ((not (stands_in x xs) && none_twice xs) && (ltb 0 (ends_at e x) && all_open e xs))) p
    ∙ ap (λ b. (b && within n xs) && ((not (stands_in x xs) && none_twice xs) && (ltb 0 (ends_at e x) && all_open e xs))) l
    ∙ ap (λ b. within n xs && ((not (stands_in x xs) && none_twice xs) && (b && all_open e xs))) o))
    (λ o.
    ap (λ b. (ltb 0 x && (ltb x n && b)) && follows n (made_one e x) xs) o
    ∙ ap (λ b. (ltb 0 x && b) && follows n (made_one e x) xs) (and-false (ltb x n))
    ∙ ap (λ b. b && follows n (made_one e x) xs) (and-false (ltb 0 x))
    ∙ sym (ap (λ b. ((ltb 0 x && ltb x n) && within n xs) && ((not (stands_in x xs) && none_twice xs) && (b && all_open e xs))) o
    ∙ ap (λ b. ((ltb 0 x && ltb x n) && within n xs) && b) (and-false (not (stands_in x xs) && none_twice xs))
    ∙ and-false ((ltb 0 x && ltb x n) && within n xs)))
    (cases_Bool (ltb 0 (ends_at e x))))
    (λ l.
    ap (λ b. (ltb 0 x && (b && ltb 0 (ends_at e x))) && follows n (made_one e x) xs) l
    ∙ ap (λ b. b && follows n (made_one e x) xs) (and-false (ltb 0 x))
    ∙ sym (ap (λ b. ((ltb 0 x && b) && within n xs) && ((not (stands_in x xs) && none_twice xs) && (ltb 0 (ends_at e x) && all_open e xs))) l
    ∙ ap (λ b. (b && within n xs) && ((not (stands_in x xs) && none_twice xs) && (ltb 0 (ends_at e x) && all_open e xs))) (and-false (ltb 0 x))))
    (cases_Bool (ltb x n)))
    (λ p.
    ap (λ b. (b && (ltb x n && ltb 0 (ends_at e x))) && follows n (made_one e x) xs) p
    ∙ sym (ap (λ b. ((b && ltb x n) && within n xs) && ((not (stands_in x xs) && none_twice xs) && (ltb 0 (ends_at e x) && all_open e xs))) p))
    (cases_Bool (ltb 0 x))

opened : (n : ℕ) (e : List Span) (xs : List ℕ) → ((i : ℕ) → i < n → 0 < ends_at e i) → within n xs ≡ true → all_open e xs ≡ true
unfolding within all_open
opened n e [] all h = refl
opened n e (x ∷ xs) all h =
    let p = and_parts (ltb 0 x && ltb x n) (within n xs) h in
    let l = ltb-true x n (and_parts (ltb 0 x) (ltb x n) p.0).1 in
    ap (λ b. b && all_open e xs) (lt-ltb 0 (ends_at e x) (all x l)) ∙ opened n e xs all p.1

-- from single stages on, an order is followed if its entries are boundaries and none stands twice
pub follows_is : (n : ℕ) (e : List Span) (xs : List ℕ) → Blocks n e → ((i : ℕ) → i < n → 0 < ends_at e i) → follows n e xs ≡ (within n xs && none_twice xs)
follows_is n e xs sound all =
    follows_from n e xs sound
    ∙ ⊎_elim
    (λ w. ap (λ b. within n xs && (none_twice xs && b)) (opened n e xs all w) ∙ ap (λ b. within n xs && b) (and-true (none_twice xs)))
    (λ w. ap (λ b. b && (none_twice xs && all_open e xs)) w ∙ sym (ap (λ b. b && none_twice xs) w))
    (cases_Bool (within n xs))

pub complete_is : (n : ℕ) (e : List Span) (order : List ℕ) → Blocks n e → ((i : ℕ) → i < n → 0 < ends_at e i) → length order ≡ n - 1 → complete_order n order ≡ follows n e order
complete_is n e order sound all long = ap (λ b. b && (within n order && none_twice order)) (eq-eqb (length order) (n - 1) long) ∙ sym (follows_is n e order sound all)

-- the next boundary
module _ (n : ℕ) (e : List Span) (order : List ℕ) (i : ℕ) where
  pub follows_on : i < length order → is_open n e (get_or order i 0) ≡ true → follows n e (drop i order) ≡ follows n (made_one e (get_or order i 0)) (drop (i + 1) order)
  unfolding follows
  follows_on h open-here =
      ap (follows n e) (drop-cons order i 0 h) ∙ ap (λ b. b && follows n (made_one e (get_or order i 0)) (drop (suc i) order)) open-here
      ∙ ap (λ k. follows n (made_one e (get_or order i 0)) (drop k order)) (sym (add-one i))

  pub follows_stops : i < length order → is_open n e (get_or order i 0) ≡ false → follows n e (drop i order) ≡ false
  unfolding follows
  follows_stops h shut = ap (follows n e) (drop-cons order i 0 h) ∙ ap (λ b. b && follows n (made_one e (get_or order i 0)) (drop (suc i) order)) shut

  pub follows_ends : length order ≤ i → follows n e (drop i order) ≡ true
  unfolding follows
  follows_ends h = ap (follows n e) (drop_of_length-le order h)
