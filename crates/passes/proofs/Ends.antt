-- What an order leaves in the spans, and which block was made last in each place.
use Rattle.std.proofs.Common.{Option, Some, None, ◌≡◌, ℕ, zero, suc, ◌+◌, ◌-◌, ◌<◌, ◌≤◌, true, false, cond, eqb, List, [], ◌∷◌, ◌++◌, length, get_or, drop, sym, refl, ap, ◌∙◌, ⊎_elim, add-one, arith, drop_of_length-le, drop-cons, length-append}
use Rattle.std.proofs.lemmas.Bool.{cases_eq}
use Rattle.std.proofs.lemmas.List.{ext_get_or, get_or_append_left, get_or-append_right}
use Rattle.passes.specs.declared.orders.Span.{Span}
use Rattle.passes.specs.Orders.{span_at, ends_at, begins_before, is_open, made_one, single_spans, followed, ends_made, made_last, spans_after, ends_after, last_after}

single_long : (n : ℕ) → length (single_spans n) ≡ n
unfolding single_spans
single_long zero = refl
single_long (suc n) = length-append (single_spans n) (record { end = n + 1; begin = n } ∷ []) ∙ ap (λ m. m + 1) (single_long n) ∙ add-one n

single_at : (n k : ℕ) → k < n → span_at (single_spans n) k ≡ record { end = k + 1; begin = k }
unfolding single_spans
single_at zero k h = absurd (omega arith)
single_at (suc n) k h =
    let long = single_long n in
    let last : List Span = record { end = n + 1; begin = n } ∷ [] in
    let none : Span = record { end = 0; begin = 0 } in
    ⊎_elim
    (λ q. ap (span_at (single_spans n ++ last)) q ∙ get_or-append_right (single_spans n) last n n none long (omega arith) ∙ ap (λ i. get_or last i none) (let z : n - n ≡ 0 = omega arith in z)
    ∙ ap (λ k. let s : Span = record { end = k + 1; begin = k } in s) (sym q))
    (λ q. let less : k < n = omega arith in get_or_append_left (single_spans n) last none k (omega arith) ∙ single_at n k less)
    (cases_eq k n)

-- spans that say so are these
pub single_is : (n : ℕ) (e : List Span) → length e ≡ n → ((k : ℕ) → k < n → span_at e k ≡ record { end = k + 1; begin = k }) → e ≡ single_spans n
single_is n e long is =
    ext_get_or (let none : Span = record { end = 0; begin = 0 } in none) e (single_spans n) (long ∙ sym (single_long n)) (λ k h. is k (omega arith) ∙ sym (single_at n k (omega arith)))

module _ (n : ℕ) (e : List Span) (order : List ℕ) (i : ℕ) where
  pub spans_on : i < length order → is_open n e (get_or order i 0) ≡ true → followed n e (drop i order) ≡ followed n (made_one e (get_or order i 0)) (drop (i + 1) order)
  unfolding followed
  spans_on h open-here =
      ap (followed n e) (drop-cons order i 0 h) ∙ ap (λ b. cond b (followed n (made_one e (get_or order i 0)) (drop (suc i) order)) e) open-here
      ∙ ap (λ k. followed n (made_one e (get_or order i 0)) (drop k order)) (sym (add-one i))

  pub spans_stop : i < length order → is_open n e (get_or order i 0) ≡ false → followed n e (drop i order) ≡ e
  unfolding followed
  spans_stop h shut = ap (followed n e) (drop-cons order i 0 h) ∙ ap (λ b. cond b (followed n (made_one e (get_or order i 0)) (drop (suc i) order)) e) shut

  pub spans_end : length order ≤ i → followed n e (drop i order) ≡ e
  unfolding followed
  spans_end h = ap (followed n e) (drop_of_length-le order h)

  pub last_on : (x : Option ℕ) → i < length order → is_open n e (get_or order i 0) ≡ true
      → made_last n e x (drop i order) ≡ made_last n (made_one e (get_or order i 0)) (Some (begins_before e (get_or order i 0))) (drop (i + 1) order)
  unfolding made_last
  last_on x h open-here =
      let j = get_or order i 0 in
      let next : Option ℕ = Some (begins_before e j) in
      ap (made_last n e x) (drop-cons order i 0 h) ∙ ap (λ b. cond b (made_last n (made_one e j) next (drop (suc i) order)) x) open-here
      ∙ ap (λ k. made_last n (made_one e j) next (drop k order)) (sym (add-one i))

  pub last_stop : (x : Option ℕ) → i < length order → is_open n e (get_or order i 0) ≡ false → made_last n e x (drop i order) ≡ x
  unfolding made_last
  last_stop x h shut =
      let j = get_or order i 0 in
      let next : Option ℕ = Some (begins_before e j) in
      ap (made_last n e x) (drop-cons order i 0 h) ∙ ap (λ b. cond b (made_last n (made_one e j) next (drop (suc i) order)) x) shut

  pub last_end : (x : Option ℕ) → length order ≤ i → made_last n e x (drop i order) ≡ x
  unfolding made_last
  last_end x h = ap (made_last n e x) (drop_of_length-le order h)

  module _ (r : ℕ → ℕ) (a : ℕ) where
    pub ends_on : i < length order → is_open n e (get_or order i 0) ≡ true
        → ends_made n e r (drop i order) a ≡ ends_made n (made_one e (get_or order i 0)) (λ b. cond (eqb b (begins_before e (get_or order i 0))) (ends_at e (get_or order i 0)) (r b)) (drop (i + 1) order) a
    unfolding ends_made
    ends_on h open-here =
        let j = get_or order i 0 in
        let next : ℕ → ℕ = λ b. cond (eqb b (begins_before e j)) (ends_at e j) (r b) in
        ap (λ js. ends_made n e r js a) (drop-cons order i 0 h) ∙ ap (λ b. cond b (ends_made n (made_one e j) next (drop (suc i) order) a) (r a)) open-here
        ∙ ap (λ k. ends_made n (made_one e j) next (drop k order) a) (sym (add-one i))

    pub ends_stop : i < length order → is_open n e (get_or order i 0) ≡ false → ends_made n e r (drop i order) a ≡ r a
    unfolding ends_made
    ends_stop h shut =
        let j = get_or order i 0 in
        let next : ℕ → ℕ = λ b. cond (eqb b (begins_before e j)) (ends_at e j) (r b) in
        ap (λ js. ends_made n e r js a) (drop-cons order i 0 h) ∙ ap (λ b. cond b (ends_made n (made_one e j) next (drop (suc i) order) a) (r a)) shut

    pub ends_end : length order ≤ i → ends_made n e r (drop i order) a ≡ r a
    unfolding ends_made
    ends_end h = ap (λ js. ends_made n e r js a) (drop_of_length-le order h)

-- at a return: from the invariants to the whole order, from the blocks of one stage each
module _ (many n : ℕ) (is : n ≡ many) (begun e : List Span) (order : List ℕ) (i : ℕ) (start : begun ≡ single_spans n) where
  pub spans_left : followed n begun order ≡ followed n e (drop i order) → followed n e (drop i order) ≡ e → length e ≡ n
      → (rest : List Span) (k : ℕ) → k < many → span_at (e ++ rest) k ≡ span_at (spans_after many order) k
  spans_left was stop long rest k h =
      get_or_append_left e rest (let none : Span = record { end = 0; begin = 0 } in none) k (omega arith)
      ∙ ap (λ e. span_at e k) (sym (was ∙ stop)) ∙ ap (λ b. span_at (followed n b order) k) start ∙ ap (λ n. span_at (spans_after n order) k) is

  pub ends_left : (r : ℕ → ℕ) (a : ℕ) → ends_made n begun (λ b. b + 1) order a ≡ ends_made n e r (drop i order) a → ends_made n e r (drop i order) a ≡ r a → r a ≡ ends_after many order a
  ends_left r a was stop = sym (was ∙ stop) ∙ ap (λ b. ends_made n b (λ b. b + 1) order a) start ∙ ap (λ n. ends_after n order a) is

  pub last_left : (x : Option ℕ) → made_last n begun None order ≡ made_last n e x (drop i order) → made_last n e x (drop i order) ≡ x → x ≡ last_after many order
  last_left x was stop = sym (was ∙ stop) ∙ ap (λ b. made_last n b None order) start ∙ ap (λ n. last_after n order) is
