-- One halving of the words, place by place.
use Rattle.std.proofs.Common.{◌≡◌, ℕ, ◌+◌, ◌<◌, ◌≤◌, ◌≢◌, List, ◌++◌, length, get_or, set, sym, refl, ap, ◌∙◌, add-one, arith, get_or-set_other, get_or-set_same, below_more}
use Rattle.std.proofs.lemmas.List.{get_or_default, get_or_read, get_or_append_left, get_or-append_right}
use Rattle.paths.specs.Semirings.{Operations}
use Rattle.paths.specs.Columns.{join_below}
use Rattle.marginals.proofs.Folds.{below_same}

-- below x the two halves are taken together in the lower one, which stands as it did from x on
pub record HalfWay {W : Type 0} (o : Operations W) (x : ℕ) (lows highs new : List W) (zero one : W) : Type 0 where
  pub zeros : zero ≡ join_below o x (λ y. get_or lows y o.none)
  pub ones : one ≡ join_below o x (λ y. get_or highs y o.none)
  pub done : (y : ℕ) → y < x → get_or new y o.none ≡ o.join (get_or lows y o.none) (get_or highs y o.none)
  pub rest : (y : ℕ) → x ≤ y → get_or new y o.none ≡ get_or lows y o.none

module _ {W : Type 0} (o : Operations W) (lows highs : List W) where
  pub half_start : (zero one : W) → zero ≡ o.none → one ≡ o.none → HalfWay o 0 lows highs lows zero one
  unfolding join_below
  half_start zero one p q = record { zeros = p; ones = q; done = λ y h. absurd (omega arith); rest = λ y h. refl }

  pub half_more : (x : ℕ) (new : List W) (zero one : W) → HalfWay o x lows highs new zero one → x < length new → x < length highs
      → (d e zero' one' both : W) → e ≡ get_or highs x e → zero' ≡ o.join zero (get_or new x d) → one' ≡ o.join one e → both ≡ o.join (get_or new x d) e
      → HalfWay o (x + 1) lows highs (set new x both) zero' one'
  unfolding join_below
  half_more x new zero one was low high d e zero' one' both read z u j =
      let p : get_or new x d ≡ get_or lows x o.none = get_or_default new x d o.none low ∙ was.rest x (omega arith) in
      let q : e ≡ get_or highs x o.none = get_or_read highs x e high read o.none in
      let ok : both ≡ o.join (get_or lows x o.none) (get_or highs x o.none) = cc in
      record {
        zeros = rw add-one (let s = was.zeros in cc);
        ones = rw add-one (let s = was.ones in cc);
        done = below_more _ _
            (λ y lt. let ne : y ≢ x = omega arith in rw get_or-set_other (was.done y lt))
            (rw get_or-set_same ok);
        rest = λ y le. let ne : y ≢ x = omega arith in rw get_or-set_other (was.rest y (omega arith));
      }

  -- both halves are one list of words
  module _ (n x : ℕ) (words new : List W) (zero one : W) (was : HalfWay o x lows highs new zero one) (is : words ≡ lows ++ highs) (long : length lows ≡ n) (all : x ≡ n) where
    low_of : (y : ℕ) → y < n → get_or lows y o.none ≡ get_or words y o.none
    low_of y h = sym (ap (λ ws. get_or ws y o.none) is ∙ get_or_append_left lows highs o.none y (omega arith))

    high_of : (y : ℕ) → get_or highs y o.none ≡ get_or words (n + y) o.none
    high_of y = sym (ap (λ ws. get_or ws (n + y) o.none) is ∙ get_or-append_right lows highs n (n + y) o.none long (omega arith) ∙ ap (λ i. get_or highs i o.none) (omega arith))

    pub all_zeros : zero ≡ join_below o n (λ y. get_or words y o.none)
    all_zeros = was.zeros ∙ ap (λ m. join_below o m (λ y. get_or lows y o.none)) all ∙ below_same o _ _ n low_of

    pub all_ones : one ≡ join_below o n (λ y. get_or words (n + y) o.none)
    all_ones = was.ones ∙ ap (λ m. join_below o m (λ y. get_or highs y o.none)) all ∙ below_same o _ _ n (λ y h. high_of y)

    pub all_done : length new ≡ length lows → (y : ℕ) → y < n → get_or (new ++ highs) y o.none ≡ o.join (get_or words y o.none) (get_or words (n + y) o.none)
    all_done same y h =
        let p = low_of y h in
        let q = high_of y in
        let d = was.done y (omega arith) in
        get_or_append_left new highs o.none y (omega arith) ∙ cc
