-- Joins over lists: what they keep, and how they come apart.
use Rattle.std.proofs.Common.{◌≡◌, ℕ, zero, suc, ◌<◌, Bool, true, false, cond, eqb, List, [], ◌∷◌, ◌++◌, map, filter, sym, refl, ap, ◌∙◌, subst, ⊎_elim, arith}
use Rattle.std.specs.List.{flat_map}
use Rattle.std.proofs.lemmas.Bool.{eq-eqb, ne_eqb, cases_eq}
use Rattle.paths.specs.Semirings.{Operations, Semiring}
use Rattle.paths.specs.Trellises.{Each}
use Rattle.paths.specs.Paths.{states_below, join_over}

pub over_cong : {W A : Type 0} (o : Operations W) (f g : A → W) → ((x : A) → f x ≡ g x) → (xs : List A) → join_over o f xs ≡ join_over o g xs
unfolding join_over
over_cong o f g h [] = refl
over_cong o f g h (x ∷ xs) = ap (λ u. o.join u (join_over o f xs)) (h x) ∙ ap (o.join (g x)) (over_cong o f g h xs)

pub over_each : {W A : Type 0} (o : Operations W) (P : A → Type 0) (f g : A → W) → ((x : A) → P x → f x ≡ g x) → (xs : List A) → Each P xs → join_over o f xs ≡ join_over o g xs
unfolding join_over
over_each o P f g h [] k = refl
over_each o P f g h (x ∷ xs) k = ap (λ u. o.join u (join_over o f xs)) (h x k.0) ∙ ap (o.join (g x)) (over_each o P f g h xs k.1)

pub over_below : {W : Type 0} (o : Operations W) (f g : ℕ → W) (n : ℕ) → ((v : ℕ) → v < n → f v ≡ g v) → join_over o f (states_below n) ≡ join_over o g (states_below n)
unfolding join_over
over_below o f g zero h = refl
over_below o f g (suc n) h = ap (λ u. o.join u (join_over o f (states_below n))) (h n (omega arith)) ∙ ap (o.join (g n)) (over_below o f g n (λ v l. h v (omega arith)))

pub over_map : {W A B : Type 0} (o : Operations W) (f : B → W) (h : A → B) (xs : List A) → join_over o f (map h xs) ≡ join_over o (λ x. f (h x)) xs
unfolding join_over
over_map o f h [] = refl
over_map o f h (x ∷ xs) = ap (o.join (f (h x))) (over_map o f h xs)

module _ {W : Type 0} {fine : W → Type 0} {o : Operations W} (laws : Semiring fine o) where
  pub none_join : (x : W) → fine x → o.join o.none x ≡ x
  none_join x h = laws.join_comm _ _ laws.none_fine h ∙ laws.join_none x h

  pub none_chain : (x : W) → fine x → o.chain o.none x ≡ o.none
  none_chain x h = laws.chain_comm _ _ laws.none_fine h ∙ laws.chain_none x h

  pub unit_chain : (x : W) → fine x → o.chain o.unit x ≡ x
  unit_chain x h = laws.chain_comm _ _ laws.unit_fine h ∙ laws.chain_unit x h

  pub cond_fine : (b : Bool) (x : W) → fine x → fine (cond b x o.none)
  cond_fine b x h = elim b as (λ b. fine (cond b x o.none)) [ true ↦ h | false ↦ laws.none_fine ]

  pub chain_cond : (b : Bool) (a x : W) → fine a → o.chain a (cond b x o.none) ≡ cond b (o.chain a x) o.none
  chain_cond b a x h = elim b as (λ b. o.chain a (cond b x o.none) ≡ cond b (o.chain a x) o.none) [ true ↦ refl | false ↦ laws.chain_none a h ]

  pub cond_chain : (b : Bool) (a x : W) → fine a → o.chain (cond b x o.none) a ≡ cond b (o.chain x a) o.none
  cond_chain b a x h = elim b as (λ b. o.chain (cond b x o.none) a ≡ cond b (o.chain x a) o.none) [ true ↦ refl | false ↦ none_chain a h ]

  pub over_none : {A : Type 0} (xs : List A) → join_over o (λ (x : A). o.none) xs ≡ o.none
  unfolding join_over
  over_none [] = refl
  over_none (x ∷ xs) = ap (o.join o.none) (over_none xs) ∙ laws.join_none _ laws.none_fine

  pub over_cond : {A : Type 0} (b : Bool) (f : A → W) (xs : List A) → join_over o (λ x. cond b (f x) o.none) xs ≡ cond b (join_over o f xs) o.none
  over_cond b f xs = elim b as (λ b. join_over o (λ x. cond b (f x) o.none) xs ≡ cond b (join_over o f xs) o.none) [ true ↦ refl | false ↦ over_none xs ]

  over_fine_of : {A : Type 0} (f : A → W) → ((x : A) → fine (f x)) → (xs : List A) → fine (join_over o f xs)
  unfolding join_over
  over_fine_of f ok [] = laws.none_fine
  over_fine_of f ok (x ∷ xs) = laws.join_fine _ _ (ok x) (over_fine_of f ok xs)

  module _ {A : Type 0} (f : A → W) (ok : (x : A) → fine (f x)) where
    pub over_fine : (xs : List A) → fine (join_over o f xs)
    over_fine xs = over_fine_of f ok xs

    pub over_append : (xs ys : List A) → join_over o f (xs ++ ys) ≡ o.join (join_over o f xs) (join_over o f ys)
    unfolding join_over
    over_append [] ys = sym (none_join _ (over_fine ys))
    over_append (x ∷ xs) ys = ap (o.join (f x)) (over_append xs ys) ∙ sym (laws.join_assoc _ _ _ (ok x) (over_fine xs) (over_fine ys))

    pub over_joined : {B : Type 0} (h : B → List A) (ys : List B) → join_over o f (flat_map h ys) ≡ join_over o (λ y. join_over o f (h y)) ys
    unfolding join_over
    over_joined h [] = refl
    over_joined h (y ∷ ys) = over_append (h y) (flat_map h ys) ∙ ap (o.join (join_over o f (h y))) (over_joined h ys)

    pub chain_over : (a : W) → fine a → (xs : List A) → o.chain a (join_over o f xs) ≡ join_over o (λ x. o.chain a (f x)) xs
    unfolding join_over
    chain_over a h [] = laws.chain_none a h
    chain_over a h (x ∷ xs) = laws.chain_join a _ _ h (ok x) (over_fine xs) ∙ ap (o.join (o.chain a (f x))) (chain_over a h xs)

    pub over_chain : (a : W) → fine a → (xs : List A) → o.chain (join_over o f xs) a ≡ join_over o (λ x. o.chain (f x) a) xs
    over_chain a h xs = laws.chain_comm _ _ (over_fine xs) h ∙ chain_over a h xs ∙ over_cong o (λ x. o.chain a (f x)) (λ x. o.chain (f x) a) (λ x. laws.chain_comm a (f x) h (ok x)) xs

    pub over_kept : (p : A → Bool) (xs : List A) → join_over o f (filter p xs) ≡ join_over o (λ x. cond (p x) (f x) o.none) xs
    unfolding join_over
    over_kept p [] = refl
    over_kept p (x ∷ xs) =
        elim (p x) as (λ b. join_over o f (cond b (x ∷ filter p xs) (filter p xs)) ≡ o.join (cond b (f x) o.none) (join_over o (λ x. cond (p x) (f x) o.none) xs)) [
          | true ↦ ap (o.join (f x)) (over_kept p xs)
          | false ↦ over_kept p xs ∙ sym (none_join _ (subst fine (over_kept p xs) (over_fine (filter p xs))))
        ]

    pub over_join : (g : A → W) (k : (x : A) → fine (g x)) (xs : List A) → join_over o (λ x. o.join (f x) (g x)) xs ≡ o.join (join_over o f xs) (join_over o g xs)
    unfolding join_over
    over_join g k [] = sym (laws.join_none _ laws.none_fine)
    over_join g k (x ∷ xs) =
        let F = over_fine xs in
        let G = over_fine_of g k xs in
        ap (o.join (o.join (f x) (g x))) (over_join g k xs)
        ∙ laws.join_assoc _ _ _ (ok x) (k x) (laws.join_fine _ _ F G)
        ∙ ap (o.join (f x)) (sym (laws.join_assoc _ _ _ (k x) F G) ∙ ap (λ u. o.join u (join_over o g xs)) (laws.join_comm _ _ (k x) F) ∙ laws.join_assoc _ _ _ F (k x) G)
        ∙ sym (laws.join_assoc _ _ _ (ok x) F (laws.join_fine _ _ (k x) G))

  pub over_swap : {A B : Type 0} (f : A → B → W) → ((x : A) (y : B) → fine (f x y)) → (xs : List A) (ys : List B)
      → join_over o (λ x. join_over o (f x) ys) xs ≡ join_over o (λ y. join_over o (λ x. f x y) xs) ys
  unfolding join_over
  over_swap f ok [] ys = sym (over_none ys)
  over_swap f ok (x ∷ xs) ys =
      ap (o.join (join_over o (f x) ys)) (over_swap f ok xs ys)
      ∙ sym (over_join (f x) (ok x) (λ y. join_over o (λ x. f x y) xs) (λ y. over_fine (λ x. f x y) (λ x. ok x y) xs) ys)

  -- one of the states below n
  pub over_one : (f : ℕ → W) → ((v : ℕ) → fine (f v)) → (n s : ℕ) → s < n → join_over o (λ v. cond (eqb s v) (f v) o.none) (states_below n) ≡ f s
  unfolding join_over
  over_one f ok zero s h = absurd (omega arith)
  over_one f ok (suc n) s h =
      let rest = join_over o (λ v. cond (eqb s v) (f v) o.none) (states_below n) in
      let rest_fine : fine rest = over_fine (λ v. cond (eqb s v) (f v) o.none) (λ v. cond_fine (eqb s v) (f v) (ok v)) (states_below n) in
      ⊎_elim
      (λ e.
      let none : rest ≡ o.none =
      over_below o (λ v. cond (eqb s v) (f v) o.none) (λ v. o.none) n (λ v l. ap (λ b. cond b (f v) o.none) (ne_eqb s v (λ q. omega arith))) ∙ over_none (states_below n) in
      ap (λ b. o.join (cond b (f n) o.none) rest) (eq-eqb s n e) ∙ ap (o.join (f n)) none ∙ laws.join_none _ (ok n) ∙ ap f (sym e))
      (λ e.
      ap (λ b. o.join (cond b (f n) o.none) rest) (ne_eqb s n e) ∙ none_join rest rest_fine
      ∙ over_one f ok n s (omega arith))
      (cases_eq s n)
