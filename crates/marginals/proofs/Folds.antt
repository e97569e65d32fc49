-- The words folded from the highest bit down to bit b.
use Rattle.std.proofs.Common.{◌≡◌, ℕ, zero, suc, ◌+◌, ◌-◌, ◌*◌, ◌^◌, ◌<◌, ◌≤◌, ◌≢◌, List, length, get_or, set, sym, refl, ap, ◌∙◌, ⊎_elim, arith, get_or-set_other, length-set}
use native.Mathlib.Nat.{pow-succ'}
use Rattle.std.proofs.Math.Nat.{pow-le-pow_right}
use Rattle.std.proofs.lemmas.Bool.{cases_eq}
use Rattle.std.proofs.lemmas.Grind.{get_or-set_at}
use Rattle.paths.specs.Semirings.{Operations}
use Rattle.paths.specs.Columns.{join_below}
use Rattle.marginals.specs.declared.room.ByBit.{ByBit}
use Rattle.marginals.specs.Words.{neither}
use Rattle.marginals.specs.Halves.{held, halved, lower, upper}

pub below_same : {W : Type 0} (o : Operations W) (f g : ℕ → W) (n : ℕ) → ((v : ℕ) → v < n → f v ≡ g v) → join_below o n f ≡ join_below o n g
unfolding join_below
below_same o f g zero same = refl
below_same o f g (suc n) same = ap (λ u. o.join u (f n)) (below_same o f g n (λ v h. same v (omega arith))) ∙ ap (o.join (join_below o n g)) (same n (omega arith))

-- what lies past a power of two lies past each lower one
pow-up : (b j x : ℕ) → b ≤ j → 2 ^ j ≤ x → 2 ^ b ≤ x
pow-up b j x h k = let p : 2 ^ b ≤ 2 ^ j = pow-le-pow_right {n = 2} (omega arith) h in omega arith

-- the words as they stand when the bits from b on are folded, with the marginals of those bits
pub record Folded {W : Type 0} (o : Operations W) (bits b : ℕ) (old words : List W) (was found : List (ByBit W)) : Type 0 where
  pub left : (x : ℕ) → x < 2 ^ b → get_or words x o.none ≡ halved o (held o old) b (bits - b) x
  pub low : (j : ℕ) → b ≤ j → j < bits → (get_or found j (neither o)).zero ≡ lower o (held o old) bits j
  pub high : (j : ℕ) → b ≤ j → j < bits → (get_or found j (neither o)).one ≡ upper o (held o old) bits j
  pub behind : (j x : ℕ) → b ≤ j → j < bits → 2 ^ j ≤ x → x < 2 ^ suc j → get_or words x o.none ≡ halved o (held o old) (suc j) (bits - suc j) x
  pub rest : (x : ℕ) → 2 ^ bits ≤ x → get_or words x o.none ≡ get_or old x o.none
  pub found_rest : (j : ℕ) → bits ≤ j → get_or found j (neither o) ≡ get_or was j (neither o)

module _ {W : Type 0} (o : Operations W) (bits : ℕ) (old : List W) where
  pub fold_start : (found : List (ByBit W)) → Folded o bits bits old old found found
  unfolding halved
  fold_start found =
      let none : bits - bits ≡ 0 = omega arith in
      record { left = λ x h. rw none; low = λ j up down. absurd (omega arith); high = λ j up down. absurd (omega arith); behind = λ j x up down. absurd (omega arith); rest = λ x h. refl; found_rest = λ j h. refl }

  -- one bit more, with what is found of it stored a field at a time
  pub fold_more : (b n p q : ℕ) (words new : List W) (first found : List (ByBit W)) (bit seen : ByBit W) (stood : W)
      → Folded o bits n old words first found → n ≡ suc b → n ≤ bits → b < length found → p ≡ b → q ≡ b
      → bit.zero ≡ join_below o (2 ^ b) (λ x. get_or words x o.none)
      → bit.one ≡ join_below o (2 ^ b) (λ x. get_or words (2 ^ b + x) o.none)
      → ((x : ℕ) → x < 2 ^ b → get_or new x o.none ≡ o.join (get_or words x o.none) (get_or words (2 ^ b + x) o.none))
      → ((x : ℕ) → 2 ^ b ≤ x → get_or new x o.none ≡ get_or words x o.none)
      → let begun : List (ByBit W) = set found p (record { zero = bit.zero; one = stood }) in Folded o bits b old new first (set begun q (record { zero = (get_or begun q seen).zero; one = bit.one }))
  unfolding halved
  fold_more b n p q words new first found bit seen stood was is within room at_p at_q z u j same =
      let d = bits - suc b in
      let f = held o old in
      let deep : bits - b ≡ suc d = omega arith in
      let twice : 2 ^ suc b ≡ 2 * 2 ^ b = pow-succ' 2 b in
      let at : (x : ℕ) → x < 2 ^ suc b → get_or words x o.none ≡ halved o f (suc b) d x =
      λ x h. was.left x (rw is h) ∙ ap (λ m. halved o f m (bits - m) x) is in
      let begun : List (ByBit W) = set found p (record { zero = bit.zero; one = stood }) in
      let stored : ByBit W = record { zero = (get_or begun q seen).zero; one = bit.one } in
      let long : length begun ≡ length found = length-set found p (record { zero = bit.zero; one = stood }) in
      let zero_kept : stored.zero ≡ bit.zero = ap (λ (y : ByBit W). y.zero) (get_or-set_at found p q (record { zero = bit.zero; one = stood }) seen (omega arith) (omega arith)) in
      let here : (j : ℕ) → j ≡ b → get_or (set begun q stored) j (neither o) ≡ stored = λ j e. get_or-set_at begun q j stored (neither o) (omega arith) (omega arith) in
      let there : (j : ℕ) → j ≢ b → get_or (set begun q stored) j (neither o) ≡ get_or found j (neither o) =
      λ j ne. get_or-set_other begun q j stored (neither o) (rw at_q ne) ∙ get_or-set_other found p j _ (neither o) (rw at_p ne) in
      record {
        left = λ x h. j x h ∙ ap (λ y. o.join y (get_or words (2 ^ b + x) o.none)) (at x (omega arith)) ∙ ap (o.join (halved o f (suc b) d x)) (at (2 ^ b + x) (omega arith)) ∙ rw deep;
        low = λ j up down. ⊎_elim
            (λ e. ap (λ (y : ByBit W). y.zero) (here j e) ∙ zero_kept ∙ z ∙ below_same o _ _ (2 ^ b) (λ x h. at x (omega arith)) ∙ ap (lower o f bits) (sym e))
            (λ (ne : j ≢ b). ap (λ (y : ByBit W). y.zero) (there j ne) ∙ was.low j (omega arith) down)
            (cases_eq j b);
        high = λ j up down. ⊎_elim
            (λ e. ap (λ (y : ByBit W). y.one) (here j e) ∙ u ∙ below_same o _ _ (2 ^ b) (λ x h. at (2 ^ b + x) (omega arith)) ∙ ap (upper o f bits) (sym e))
            (λ (ne : j ≢ b). ap (λ (y : ByBit W). y.one) (there j ne) ∙ was.high j (omega arith) down)
            (cases_eq j b);
        behind = λ j x up down above below. ⊎_elim
            (λ e. same x (rw (← e) above) ∙ at x (rw (← e) below) ∙ ap (λ n. halved o f (suc n) (bits - suc n) x) (sym e))
            (λ (ne : j ≢ b). same x (pow-up b j x (omega arith) above) ∙ was.behind j x (omega arith) down above below)
            (cases_eq j b);
        rest = λ x h. same x (pow-up b bits x (omega arith) h) ∙ was.rest x h;
        found_rest = λ j h. there j (omega arith) ∙ was.found_rest j h;
      }
