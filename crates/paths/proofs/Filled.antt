-- A list of what calls of one function gave.
use Rattle.std.proofs.Common.{◌≡◌, ℕ, zero, suc, List, [], ◌∷◌, get_or, refl}
use Rattle.std.specs.List.{FoldsTo}

-- where each call gives x, nothing else stands in the list
pub filled : {F W : Type 0} (R : F → W → F → Type 0) (x : W) → ((p : F) (y : W) (q : F) → R p y q → y ≡ x) → (xs : List W) (p q : F) → FoldsTo R p xs q → (k : ℕ) → get_or xs k x ≡ x
filled R x gives [] p q ran k = refl
filled R x gives (y ∷ ys) p q ran zero = gives p y ran.0 ran.1
filled R x gives (y ∷ ys) p q ran (suc k) = filled R x gives ys ran.0 q ran.2 k
