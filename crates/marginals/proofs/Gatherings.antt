-- The first edges of a stage, gathered by their words.
use Rattle.std.proofs.Common.{◌≡◌, ℕ, ◌+◌, ◌*◌, ◌<◌, ◌≤◌, Bool, true, false, ◌&&◌, ◌||◌, eqb, ltb, List, length, get_or, set, Some, sym, refl, ap, ◌∙◌, subst, ⊎_elim, arith, get_or-set_other, get_or-set_same}
use Rattle.std.specs.List.{slice_get}
use Rattle.std.proofs.lemmas.List.{get_or_default}
use Rattle.std.proofs.lemmas.Option.{slice_get_past}
use Rattle.std.proofs.lemmas.Bool.{cases_eq, le-ltb, eqb-true, eq-eqb, ne_eqb, and_left}
use Rattle.std.proofs.lemmas.Bool.Decides.{nat_tests}
use Rattle.paths.specs.declared.edges.Edge.{Edge}
use Rattle.paths.specs.Semirings.{Operations}
use Rattle.paths.specs.Joins.{Joins, nothing, single, both}
use Rattle.marginals.specs.Words.{passes, word_is, offered_in, framed}
use Rattle.marginals.proofs.Picks.{joins_where}

-- edge j is one of the first n, and its word is w
abbrev pub among : List Edge → ℕ → ℕ → ℕ → Bool
among es n w j = ltb j n && word_is es w j

abbrev pub Gathered : {W : Type 0} → Operations W → (ℕ → W) → List Edge → ℕ → ℕ → List W → Type 0
Gathered o f es limit n words = (w : ℕ) → w < limit → Joins o f (among es n w) (get_or words w o.none)

-- one edge more, whose word is w, or is another
more_among : (i j : ℕ) (s : Bool) → (j ≡ i → s ≡ true) → (ltb j (i + 1) && s) ≡ ((ltb j i && s) || eqb j i)
more_among i j s here = grind (arith, nat_tests)

same_among : (i j : ℕ) (s : Bool) → (j ≡ i → s ≡ false) → (ltb j i && s) ≡ (ltb j (i + 1) && s)
same_among i j s other = grind (arith, nat_tests)

all_among : (n j : ℕ) (s : Bool) → (n ≤ j → s ≡ false) → (ltb j n && s) ≡ s
all_among n j s past = grind (arith, nat_tests)

-- what the edge that is asked offers
pub offers : {W : Type 0} (o : Operations W) (states : ℕ) (frame : List W) (es : List Edge) (i : ℕ) (e : Edge) → slice_get es i ≡ Some e
    → (n cost : ℕ) (x : W) → n ≡ states → cost ≡ e.cost → x ≡ o.chain (get_or frame (e.from * n + e.to) o.none) (o.value cost) → x ≡ framed o states frame es i
offers o states frame es i e at n cost x p q is =
    is ∙ ap (λ m. o.chain (get_or frame (e.from * m + e.to) o.none) (o.value cost)) p ∙ ap (λ v. o.chain (get_or frame (e.from * states + e.to) o.none) (o.value v)) q
    ∙ sym (ap (offered_in o states frame) at)

module _ {W : Type 0} {o : Operations W} (f : ℕ → W) (es : List Edge) (limit : ℕ) where
  pub gather_start : (words : List W) → ((w : ℕ) → w < limit → get_or words w o.none ≡ o.none) → Gathered o f es limit 0 words
  gather_start words clear w h =
      subst (Joins o f (among es 0 w)) (sym (clear w h)) (nothing (among es 0 w) (λ j. and_left (ltb j 0) (word_is es w j) (le-ltb j 0 (omega arith))))

  module _ (i : ℕ) (e : Edge) (words : List W) (was : Gathered o f es limit i words) (at : slice_get es i ≡ Some e) (v : ℕ) (is : v ≡ e.word) where
    -- the word of the edge takes what the edge offers
    this_word : v < length words → (d x y : W) → x ≡ f i → y ≡ o.join (get_or words v d) x → (w : ℕ) → w < limit → v ≡ w → Joins o f (among es (i + 1) w) (get_or (set words v y) w o.none)
    this_word room d x y offers joined w h same =
        let here : (j : ℕ) → j ≡ i → word_is es w j ≡ true = λ j p. ap (word_is es w) p ∙ ap (passes (λ e. eqb e.word w)) at ∙ eq-eqb e.word w (sym is ∙ same) in
        let was_there : get_or words v d ≡ get_or words w o.none = get_or_default words v d o.none room ∙ ap (λ n. get_or words n o.none) same in
        let stored : get_or (set words v y) w o.none ≡ y = ap (λ n. get_or (set words v y) n o.none) (sym same) ∙ get_or-set_same words v y o.none room in
        let value : get_or (set words v y) w o.none ≡ o.join (get_or words w o.none) (f i) = cc in
        subst (Joins o f (among es (i + 1) w)) (sym value)
        (both (among es i w) (λ j. eqb j i) (among es (i + 1) w) _ _ (was w h) (single (λ j. eqb j i) i (eq-eqb i i refl) (λ j t. eqb-true j i t))
        (λ j p q. grind (arith, nat_tests, p, q)) (λ j. more_among i j (word_is es w j) (here j)))

    -- every other word stays
    other_word : (y : W) (w : ℕ) → w < limit → (v ≡ w → ⊥) → Joins o f (among es (i + 1) w) (get_or (set words v y) w o.none)
    other_word y w h apart =
        let other : (j : ℕ) → j ≡ i → word_is es w j ≡ false = λ j p. ap (word_is es w) p ∙ ap (passes (λ e. eqb e.word w)) at ∙ ne_eqb e.word w (λ q. apart (is ∙ q)) in
        subst (Joins o f (among es (i + 1) w)) (sym (get_or-set_other words v w y o.none (λ p. apart (sym p))))
        (joins_where f (among es i w) (among es (i + 1) w) _ (λ j. same_among i j (word_is es w j) (other j)) (was w h))

    pub gather_more : v < length words → (d x y : W) → x ≡ f i → y ≡ o.join (get_or words v d) x → Gathered o f es limit (i + 1) (set words v y)
    gather_more room d x y offers joined w h = ⊎_elim (this_word room d x y offers joined w h) (other_word y w h) (cases_eq v w)

  pub gather_all : (n : ℕ) (words : List W) → Gathered o f es limit n words → n ≡ length es → (w : ℕ) → w < limit → Joins o f (word_is es w) (get_or words w o.none)
  gather_all n words was all w h =
      joins_where f (among es n w) (word_is es w) _ (λ j. all_among n j (word_is es w j) (λ past. ap (passes (λ e. eqb e.word w)) (slice_get_past es j (omega arith)))) (was w h)
