-- A buffer whose front of n places is made place by place, and whose tail is kept.
use Rattle.std.proofs.Common.{◌≡◌, ℕ, ◌+◌, ◌*◌, ◌<◌, ◌≤◌, List, [], ◌∷◌, ◌++◌, map, length, take, drop, set, sym, refl, ap, ◌∙◌, arith}
use Rattle.std.specs.List.{range_with_len}
use Rattle.std.proofs.lemmas.List.FromFn.{map-range_with_len_more}
use Rattle.std.proofs.lemmas.List.{take_more_set, drop-set-lt, length-set}

-- the first k of n places are made
pub record Front {X : Type 0} (f : ℕ → X) (k n : ℕ) (old new : List X) : Type 0 where
  pub front : take k new ≡ map f (range_with_len 0 k)
  pub tail : drop n new ≡ drop n old

pub front_none : {X : Type 0} (f : ℕ → X) (n : ℕ) (xs : List X) → Front f 0 n xs xs
front_none f n xs = record { front = refl; tail = refl }

pub front_more : {X : Type 0} (f : ℕ → X) (k n : ℕ) (old new : List X) (x : X) → k < n → n ≤ length new → Front f k n old new → x ≡ f k → Front f (k + 1) n old (set new k x)
front_more f k n old new x l long h e =
    record {
      front = take_more_set new k x (omega arith) ∙ ap (λ xs. xs ++ x ∷ []) h.front ∙ ap (λ y. map f (range_with_len 0 k) ++ y ∷ []) e ∙ sym (map-range_with_len_more f 0 k k (omega arith));
      tail = drop-set-lt n new k x l ∙ h.tail;
    }

pub front_two : {X : Type 0} (f : ℕ → X) (k n : ℕ) (old new : List X) (x y : X) → k < n → 2 * n ≤ length new → Front f (2 * k) (2 * n) old new → x ≡ f (2 * k) → y ≡ f (2 * k + 1)
    → Front f (2 * (k + 1)) (2 * n) old (set (set new (2 * k) x) (2 * k + 1) y)
front_two f k n old new x y l long h e d =
    let q : 2 * k + 1 + 1 ≡ 2 * (k + 1) = omega arith in
    let s = length-set new (2 * k) x in
    let first = front_more f (2 * k) (2 * n) old new x (omega arith) long h e in
    let second = front_more f (2 * k + 1) (2 * n) old (set new (2 * k) x) y (omega arith) (omega arith) first d in
    rw q at second

pub front_all : {X : Type 0} (f : ℕ → X) (k n : ℕ) (old new : List X) → Front f k n old new → k ≡ n → take n new ≡ map f (range_with_len 0 n)
front_all f k n old new h e = ap (λ i. take i new) (sym e) ∙ h.front ∙ ap (λ i. map f (range_with_len 0 i)) e
