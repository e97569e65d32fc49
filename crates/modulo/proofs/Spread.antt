-- The least costs of one column lie within reach times ceiling of each other.
use Rattle.std.proofs.Common.{◌≡◌, ℕ, zero, suc, ◌+◌, ◌-◌, ◌*◌, ◌<◌, ◌≤◌, ap, ⊎_elim, mul-le-mul_right, arith}
use Rattle.std.proofs.lemmas.Bool.{cases_lt}
use Rattle.paths.specs.Trellises.{Meaning, Lawful, Linked, reversed}
use Rattle.paths.specs.Columns.{forward}
use Rattle.paths.specs.Least.{least, top}
use Rattle.paths.proofs.Inside.{edge_lawful}
use Rattle.modulo.specs.Spread.{Connected, ColumnsSpread}
use Rattle.modulo.proofs.Steps.{step_on, step_back}
use Rattle.modulo.proofs.Heights.{high}
use Rattle.modulo.proofs.Reversal.{reversed_connected}

module _ (states ceiling bits : ℕ) (m : Meaning) (lawful : Lawful states ceiling bits m) where
  -- on along any walk
  walk_on : (n k j s t : ℕ) → k + n ≡ j → j ≤ m.stages → Linked m n k s t → forward least states m j t ≤ forward least states m k s + n * ceiling
  walk_on zero k j s t at within l =
      let e : k ≡ j = omega arith in
      let q : forward least states m j t ≡ forward least states m k s = cc in
      omega arith
  walk_on (suc n) k j s t at within l =
      let e = l.0 in
      let has = l.1 in
      let h = walk_on n (suc k) j e.to t (omega arith) within l.3 in
      let one = step_on states ceiling bits m lawful k e (omega arith) has in
      let cheap = (edge_lawful lawful k (omega arith) has.0 e has.1).cheap in
      let q : forward least states m k e.from ≡ forward least states m k s = ap (forward least states m k) l.2 in
      omega arith

  -- and back along the best one
  walk_back : (n k j s : ℕ) → k + n ≡ j → j ≤ m.stages → s < states → forward least states m j s < top
      → (u : ℕ) × (u < states) × (forward least states m k u ≤ forward least states m j s)
  walk_back zero k j s at within low h =
      let e : k ≡ j = omega arith in
      let q : forward least states m k s ≡ forward least states m j s = cc in
      (s, low, omega arith)
  walk_back (suc n) k zero s at within low h = absurd (omega arith)
  walk_back (suc n) k (suc j) s at within low h =
      let b = step_back states ceiling bits m lawful j s h in
      let e = b.0 in
      let q = b.3 in
      let from_low = (edge_lawful lawful j (omega arith) b.1.0 e b.1.1).from_low in
      let r = walk_back n k j e.from (omega arith) (omega arith) from_low (omega arith) in
      let l = r.2 in
      (r.0, r.1, omega arith)

-- after fewer stages than the reach all costs are low; after more, compare with the least entry so many stages before
pub forward_spread : (states ceiling bits reach : ℕ) (m : Meaning) → Connected states ceiling bits reach m → (k s t : ℕ) → k ≤ m.stages → s < states → t < states
    → forward least states m k s < top → forward least states m k t < top → forward least states m k s ≤ forward least states m k t + reach * ceiling
forward_spread states ceiling bits reach m h k s t within s_low t_low s_some t_some =
    ⊎_elim
    (λ short.
    let a = high states ceiling bits m h.lawful k s within s_some in
    let l : k * ceiling ≤ reach * ceiling = mul-le-mul_right ceiling (omega arith) in
    omega arith)
    (λ long.
    let b = walk_back states ceiling bits m h.lawful reach (k - reach) k t (omega arith) within t_low t_some in
    let u = b.0 in
    let q = b.2 in
    let link = h.reaches (k - reach) u s h.some_reach (omega arith) b.1 s_low in
    let on = walk_on states ceiling bits m h.lawful reach (k - reach) k u s (omega arith) within link in
    omega arith)
    (cases_lt k reach)

pub columns_spread : ColumnsSpread
columns_spread states ceiling bits reach m h k within = (
  record { near = λ s t. forward_spread states ceiling bits reach m h k s t within },
  record { near = λ s t. forward_spread states ceiling bits reach (reversed m) (reversed_connected states ceiling bits reach m h) (m.stages - k) s t (omega arith) },
)
