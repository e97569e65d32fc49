-- What is remembered of blocks of neighbours stays sound while blocks are made one.
use Rattle.std.proofs.Common.{◌≡◌, ℕ, ◌+◌, ◌-◌, ◌<◌, ◌≤◌, ◌≢◌, List, length, sym, ap, ◌∙◌, ⊎_elim, arith, length-set, get_or-set_other, get_or-set_same}
use Rattle.std.proofs.lemmas.Bool.{cases_eq}
use Rattle.passes.specs.declared.orders.Span.{Span}
use Rattle.passes.specs.Orders.{span_at, ends_at, begins_before, with_end, with_begin, made_one}

-- a stage at which an end is remembered begins a block
pub record Blocks (n : ℕ) (e : List Span) : Type 0 where
  pub long : n ≤ length e
  pub some : 0 < n
  pub first : 0 < ends_at e 0
  pub after : (a : ℕ) → a < n → 0 < ends_at e a → a < ends_at e a
  pub inside : (a : ℕ) → a < n → 0 < ends_at e a → ends_at e a ≤ n
  pub back : (a : ℕ) → a < n → 0 < ends_at e a → begins_before e (ends_at e a) ≡ a
  pub next : (a : ℕ) → a < n → 0 < ends_at e a → ends_at e a < n → 0 < ends_at e (ends_at e a)
  pub before : (j : ℕ) → 0 < j → j < n → 0 < ends_at e j → begins_before e j < j
  pub forth : (j : ℕ) → 0 < j → j < n → 0 < ends_at e j → ends_at e (begins_before e j) ≡ j

-- each stage a block of its own
pub single : (n : ℕ) (e : List Span) → 0 < n → n ≤ length e → ((k : ℕ) → k < n → span_at e k ≡ record { end = k + 1; begin = k }) → Blocks n e
single n e some long is =
    let begin : (k : ℕ) → k < n → ends_at e k ≡ k + 1 = λ k h. ap (λ s. s.end) (is k h) in
    let end : (k : ℕ) → k < n → (span_at e k).begin ≡ k = λ k h. ap (λ s. s.begin) (is k h) in
    record {
      long = long;
      some = some;
      first = (let b = begin 0 some in omega arith);
      after = λ a h o. let b = begin a h in omega arith;
      inside = λ a h o. let b = begin a h in omega arith;
      back = λ a h o. let same : ends_at e a - 1 ≡ a = (let b = begin a h in omega arith) in ap (λ x. (span_at e x).begin) same ∙ end a h;
      next = λ a h o l. let b = begin a h in let d = begin (ends_at e a) l in omega arith;
      before = λ j p h o. let b = end (j - 1) (omega arith) in omega arith;
      forth = λ j p h o. let b = end (j - 1) (omega arith) in let d = begin (j - 1) (omega arith) in ap (ends_at e) b ∙ (omega arith);
    }

-- one field of one stage changed
module _ (e : List Span) (a x : ℕ) (room : a < length e) where
  ends_new : ends_at (with_end e a x) a ≡ x
  ends_new = ap (λ s. s.end) (get_or-set_same e a _ _ room)

  ends_old : (p : ℕ) → p ≢ a → ends_at (with_end e a x) p ≡ ends_at e p
  ends_old p ne = ap (λ s. s.end) (get_or-set_other e a p _ _ ne)

  begin_new : (span_at (with_begin e a x) a).begin ≡ x
  begin_new = ap (λ s. s.begin) (get_or-set_same e a _ _ room)

  begin_old : (p : ℕ) → p ≢ a → (span_at (with_begin e a x) p).begin ≡ (span_at e p).begin
  begin_old p ne = ap (λ s. s.begin) (get_or-set_other e a p _ _ ne)

  end_stays : (p : ℕ) → ends_at (with_begin e a x) p ≡ ends_at e p
  end_stays p =
      ⊎_elim
      (λ q. ap (ends_at (with_begin e a x)) q ∙ ap (λ s. s.end) (get_or-set_same e a _ _ room) ∙ sym (ap (ends_at e) q))
      (λ q. ap (λ s. s.end) (get_or-set_other e a p _ _ q))
      (cases_eq p a)

  begin_stays : (p : ℕ) → (span_at (with_end e a x) p).begin ≡ (span_at e p).begin
  begin_stays p =
      ⊎_elim
      (λ q. ap (λ i. (span_at (with_end e a x) i).begin) q ∙ ap (λ s. s.begin) (get_or-set_same e a _ _ room) ∙ sym (ap (λ i. (span_at e i).begin) q))
      (λ q. ap (λ s. s.begin) (get_or-set_other e a p _ _ q))
      (cases_eq p a)

-- the blocks on both sides of boundary j made one
module _ (n : ℕ) (e : List Span) (sound : Blocks n e) (j : ℕ) (some : 0 < j) (low : j < n) (open-here : 0 < ends_at e j) where
  pub first_low : begins_before e j < j
  first_low = sound.before j some low open-here

  pub last_high : j < ends_at e j
  last_high = sound.after j low open-here

  pub last_low : ends_at e j ≤ n
  last_low = sound.inside j low open-here

  -- the list as each of the three changes leaves it
  abbrev one : List Span
  one = with_end e (begins_before e j) (ends_at e j)

  abbrev two : List Span
  two = with_begin one (ends_at e j - 1) (begins_before e j)

  long_one : n ≤ length one
  long_one = let l = length-set e (begins_before e j) (record (span_at e (begins_before e j)) { end = ends_at e j }) in let long = sound.long in omega arith

  long_two : n ≤ length two
  long_two = let l = length-set one (ends_at e j - 1) (record (span_at one (ends_at e j - 1)) { begin = begins_before e j }) in let long = long_one in omega arith

  room_one : begins_before e j < length e
  room_one = let f = first_low in let long = sound.long in omega arith

  room_two : ends_at e j - 1 < length one
  room_two = let l = last_low in let h = last_high in let long = long_one in omega arith

  room_three : j < length two
  room_three = let long = long_two in omega arith

  -- the three places that change
  pub at_first : ends_at (made_one e j) (begins_before e j) ≡ ends_at e j
  at_first =
      let f = first_low in
      ends_old two j 0 room_three (begins_before e j) (λ q. omega arith)
      ∙ end_stays one (ends_at e j - 1) (begins_before e j) room_two (begins_before e j)
      ∙ ends_new e (begins_before e j) (ends_at e j) room_one

  pub at_last : begins_before (made_one e j) (ends_at e j) ≡ begins_before e j
  at_last = begin_stays two j 0 room_three (ends_at e j - 1) ∙ begin_new one (ends_at e j - 1) (begins_before e j) room_two

  pub at_boundary : ends_at (made_one e j) j ≡ 0
  at_boundary = ends_new two j 0 room_three

  -- and all others
  stage_elsewhere : (p : ℕ) → p ≢ begins_before e j → p ≢ j → ends_at (made_one e j) p ≡ ends_at e p
  stage_elsewhere p s u =
      ends_old two j 0 room_three p u
      ∙ end_stays one (ends_at e j - 1) (begins_before e j) room_two p
      ∙ ends_old e (begins_before e j) (ends_at e j) room_one p s

  boundary_elsewhere : (i : ℕ) → 0 < i → i ≢ ends_at e j → begins_before (made_one e j) i ≡ begins_before e i
  boundary_elsewhere i h u =
      let l = last_high in
      begin_stays two j 0 room_three (i - 1)
      ∙ begin_old one (ends_at e j - 1) (begins_before e j) room_two (i - 1) (λ q. u (omega arith))
      ∙ begin_stays e (begins_before e j) (ends_at e j) room_one (i - 1)

  -- only boundary j is closed
  pub stays_open : (p : ℕ) → p < n → p ≢ j → 0 < ends_at e p → 0 < ends_at (made_one e j) p
  stays_open p h u o =
      ⊎_elim
      (λ q. let x = ap (ends_at (made_one e j)) q in let y = at_first in omega arith)
      (λ q. let x = stage_elsewhere p q u in omega arith)
      (cases_eq p (begins_before e j))

  pub was_open : (p : ℕ) → p < n → 0 < ends_at (made_one e j) p → 0 < ends_at e p
  was_open p h o =
      ⊎_elim
      (λ q. let x = ap (ends_at e) q in let y = sound.forth j some low open-here in omega arith)
      (λ q. ⊎_elim (λ r. let x = ap (ends_at (made_one e j)) r in let y = at_boundary in absurd (omega arith)) (λ r. let x = stage_elsewhere p q r in omega arith) (cases_eq p j))
      (cases_eq p (begins_before e j))

  -- another boundary that is open
  other : (p : ℕ) → 0 < ends_at (made_one e j) p → p ≢ j
  other p o q = let x = ap (ends_at (made_one e j)) q in let y = at_boundary in omega arith

  -- a block that is neither of the two ends where it did
  pub ends_kept : (p : ℕ) → p < n → p ≢ begins_before e j → 0 < ends_at (made_one e j) p → ends_at (made_one e j) p ≡ ends_at e p
  ends_kept p h q o = stage_elsewhere p q (other p o)

  -- and not at boundary j, nor where the second of the two ends
  not_at_boundary : (p : ℕ) → p < n → p ≢ begins_before e j → 0 < ends_at e p → ends_at e p ≢ j
  not_at_boundary p h q o r = q (sym (sound.back p h o) ∙ ap (begins_before e) r)

  not_at_last : (p : ℕ) → p < n → p ≢ j → 0 < ends_at e p → ends_at e p ≢ ends_at e j
  not_at_last p h q o r = q (sym (sound.back p h o) ∙ ap (begins_before e) r ∙ sound.back j low open-here)

  one_back : (p : ℕ) → p < n → 0 < ends_at (made_one e j) p → begins_before (made_one e j) (ends_at (made_one e j) p) ≡ p
  one_back p h o =
      ⊎_elim
      (λ q. ap (begins_before (made_one e j)) (ap (ends_at (made_one e j)) q ∙ at_first) ∙ at_last ∙ sym q)
      (λ q.
      let was = was_open p h o in
      let same = ends_kept p h q o in
      ap (begins_before (made_one e j)) same
      ∙ boundary_elsewhere (ends_at e p) was (not_at_last p h (other p o) was)
      ∙ sound.back p h was)
      (cases_eq p (begins_before e j))

  one_next : (p : ℕ) → p < n → 0 < ends_at (made_one e j) p → ends_at (made_one e j) p < n → 0 < ends_at (made_one e j) (ends_at (made_one e j) p)
  one_next p h o l =
      ⊎_elim
      (λ q.
      let same = ap (ends_at (made_one e j)) q ∙ at_first in
      let high = last_high in
      let o2 = stays_open (ends_at e j) (omega arith) (λ r. omega arith) (sound.next j low open-here (omega arith)) in
      let z = ap (ends_at (made_one e j)) same in
      omega arith)
      (λ q.
      let was = was_open p h o in
      let same = ends_kept p h q o in
      let o2 = stays_open (ends_at e p) (omega arith) (not_at_boundary p h q was) (sound.next p h was (omega arith)) in
      let z = ap (ends_at (made_one e j)) same in
      omega arith)
      (cases_eq p (begins_before e j))

  one_before : (i : ℕ) → 0 < i → i < n → 0 < ends_at (made_one e j) i → begins_before (made_one e j) i < i
  one_before i p h o =
      ⊎_elim
      (λ q. let x = ap (begins_before (made_one e j)) q ∙ at_last in let f = first_low in let l = last_high in omega arith)
      (λ q. let x = boundary_elsewhere i p q in let y = sound.before i p h (was_open i h o) in omega arith)
      (cases_eq i (ends_at e j))

  one_forth : (i : ℕ) → 0 < i → i < n → 0 < ends_at (made_one e j) i → ends_at (made_one e j) (begins_before (made_one e j) i) ≡ i
  one_forth i p h o =
      ⊎_elim
      (λ q. ap (ends_at (made_one e j)) (ap (begins_before (made_one e j)) q ∙ at_last) ∙ at_first ∙ sym q)
      (λ q.
      let was = was_open i h o in
      let x = boundary_elsewhere i p q in
      let under = sound.before i p h was in
      let is = sound.forth i p h was in
      ap (ends_at (made_one e j)) x
      ∙ stage_elsewhere (begins_before e i)
      (λ r. other i o (sym is ∙ ap (ends_at e) r ∙ sound.forth j some low open-here))
      (λ r. q (sym is ∙ ap (ends_at e) r))
      ∙ is)
      (cases_eq i (ends_at e j))

  pub one_sound : Blocks n (made_one e j)
  one_sound =
      let long = long_two in
      let l = length-set two j (record (span_at two j) { end = 0 }) in
      let n_some = sound.some in
      record {
        long = omega arith;
        some = n_some;
        first = stays_open 0 n_some (λ r. omega arith) sound.first;
        after = λ p h o. ⊎_elim
            (λ q. let s = ap (ends_at (made_one e j)) q in let t = at_first in let f = first_low in let m = last_high in omega arith)
            (λ q. let s = ends_kept p h q o in let t = sound.after p h (was_open p h o) in omega arith)
            (cases_eq p (begins_before e j));
        inside = λ p h o. ⊎_elim
            (λ q. let s = ap (ends_at (made_one e j)) q in let t = at_first in let m = last_low in omega arith)
            (λ q. let s = ends_kept p h q o in let t = sound.inside p h (was_open p h o) in omega arith)
            (cases_eq p (begins_before e j));
        back = one_back;
        next = one_next;
        before = one_before;
        forth = one_forth;
      }
