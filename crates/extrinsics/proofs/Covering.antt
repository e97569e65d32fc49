-- Walks depend only on the edges of the stages that they cover.
use Rattle.std.proofs.Common.{◌≡◌, ℕ, zero, suc, ◌+◌, ◌<◌, ◌≤◌, Bool, cond, eqb, List, [], ◌∷◌, map, refl, ap, ◌∙◌, arith}
use Rattle.std.specs.List.{flat_map}
use Rattle.paths.specs.declared.edges.Edge.{Edge}
use Rattle.paths.specs.Paths.{states_below, walks}

joined_same : {X A : Type 0} (f g : X → List A) → ((x : X) → f x ≡ g x) → (xs : List X) → flat_map f xs ≡ flat_map g xs
joined_same f g h xs = λ i. flat_map (λ x. h x i) xs

module _ (g h : ℕ → List Edge) (stop : ℕ → Bool) where
  pub walks_same : (n k s : ℕ) → ((j : ℕ) → k ≤ j → j < k + n → g j ≡ h j) → walks g stop k n s ≡ walks h stop k n s
  unfolding walks
  walks_same zero k s same = refl
  walks_same (suc n) k s same =
      joined_same
      (λ e. cond (eqb e.from s) (map (◌∷◌ e) (walks g stop (suc k) n e.to)) [])
      (λ e. cond (eqb e.from s) (map (◌∷◌ e) (walks h stop (suc k) n e.to)) [])
      (λ e. ap (λ ws. cond (eqb e.from s) (map (◌∷◌ e) ws) []) (walks_same n (suc k) e.to (λ j a b. same j (omega arith) (omega arith))))
      (g k)
      ∙ ap (λ es. flat_map (λ e. cond (eqb e.from s) (map (◌∷◌ e) (walks h stop (suc k) n e.to)) []) es) (same k (omega arith) (omega arith))

  -- those of the first n stages, out of a first state
  pub started_same : (first : ℕ → Bool) (states n : ℕ) → ((j : ℕ) → j < n → g j ≡ h j)
      → flat_map (λ s. cond (first s) (walks g stop 0 n s) []) (states_below states) ≡ flat_map (λ s. cond (first s) (walks h stop 0 n s) []) (states_below states)
  started_same first states n same =
      joined_same (λ s. cond (first s) (walks g stop 0 n s) []) (λ s. cond (first s) (walks h stop 0 n s) [])
      (λ s. ap (λ ws. cond (first s) ws []) (walks_same n 0 s (λ j a b. same j (omega arith))))
      (states_below states)
