-- What one prior of a list does to the penalties of a word.
use Rattle.std.proofs.Common.{◌≡◌, ℕ, zero, suc, ◌+◌, ◌<◌, List, [], ◌∷◌, map, length, get_or, set, ℤ, pos, sym, refl, ap, ◌∙◌, ⊎_elim, arith}
use Rattle.std.proofs.lemmas.List.{get_or-set_same, get_or-set_other}
use Rattle.std.proofs.lemmas.Bool.{cases_eq}
use Rattle.trellises.specs.Priors.{bit, penalty, penalties}

-- a prior of 0 asks nothing
pub nothing_asked : (v : ℕ) → penalty (pos 0) v ≡ 0
nothing_asked zero = refl
nothing_asked (suc v) = refl

-- two lists that differ at one place give one penalty elsewhere
pub elsewhere_same : (priors : List ℤ) (place j : ℕ) (x y : ℤ) → (j ≡ place → ⊥) → get_or (set priors place x) j (pos 0) ≡ get_or (set priors place y) j (pos 0)
elsewhere_same priors place j x y h = get_or-set_other priors place j x (pos 0) h ∙ sym (get_or-set_other priors place j y (pos 0) h)

-- a word whose priors stand elsewhere
pub penalties_same : (priors : List ℤ) (place at word n : ℕ) (x y : ℤ) → ((i : ℕ) → i < n → at + i ≡ place → ⊥) → penalties (set priors place x) at word n ≡ penalties (set priors place y) at word n
penalties_same priors place at word zero x y h = refl
penalties_same priors place at word (suc j) x y h =
    let r = penalties_same priors place at word j x y (λ i l. h i (omega arith)) in
    let s = ap (λ z. penalty z (bit word j)) (elsewhere_same priors place (at + j) x y (h j (omega arith))) in
    omega arith

-- a word that has the bit pays for it what its prior asks
pub penalties_told : (priors : List ℤ) (at b word n : ℕ) (x : ℤ) → b < n → at + b < length priors
    → penalties (set priors (at + b) x) at word n ≡ penalties (set priors (at + b) (pos 0)) at word n + penalty x (bit word b)
penalties_told priors at b word zero x l u = absurd (omega arith)
penalties_told priors at b word (suc j) x l u =
    ⊎_elim
    (λ (e : j ≡ b).
    let r = penalties_same priors (at + b) at word j x (pos 0) (λ i l q. omega arith) in
    let s = ap (λ z. penalty z (bit word b)) (get_or-set_same priors (at + b) x (pos 0) u) in
    let t = ap (λ z. penalty z (bit word b)) (get_or-set_same priors (at + b) (pos 0) (pos 0) u) ∙ nothing_asked (bit word b) in
    let f : (z : ℤ) → penalty (get_or (set priors (at + b) z) (at + j) (pos 0)) (bit word j) ≡ penalty (get_or (set priors (at + b) z) (at + b) (pos 0)) (bit word b) = λ z. ap (λ j. penalty (get_or (set priors (at + b) z) (at + j) (pos 0)) (bit word j)) e in
    omega (arith, f x, f (pos 0)))
    (λ (e : j ≡ b → ⊥).
    let r = penalties_told priors at b word j x (omega arith) u in
    let s = ap (λ z. penalty z (bit word j)) (elsewhere_same priors (at + b) (at + j) x (pos 0) (λ q. e (omega arith))) in
    omega arith)
    (cases_eq j b)

-- what one function makes of a list, made in two steps
pub map_twice : {A B C : Type 0} (f : A → C) (g : A → B) (u : B → C) → ((x : A) → f x ≡ u (g x)) → (xs : List A) → map f xs ≡ map u (map g xs)
map_twice f g u h [] = refl
map_twice f g u h (x ∷ xs) = ap (λ y. y ∷ map f xs) (h x) ∙ ap (◌∷◌ (u (g x))) (map_twice f g u h xs)
