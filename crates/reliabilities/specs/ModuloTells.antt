-- Least costs modulo 65,536 tell the true reliability, in a trellis that they serve.
use Rattle.std.proofs.Common.{◌≡◌, ℕ, suc, ◌+◌, ◌*◌, ◌<◌, ◌≤◌, sym, ap, ◌∙◌, inl, inr, mul-le-mul_right, arith}
use Rattle.std.proofs.lemmas.Bool.{eq-eqb, ne_eqb}
use Rattle.paths.specs.Trellises.{Meaning, Lawful, Reaches}
use Rattle.paths.specs.Paths.{path_join, paths_with, before, after}
use Rattle.paths.specs.Columns.{forward, backward}
use Rattle.paths.specs.Joins.{Joins, candidate, edges_with}
use Rattle.paths.specs.Least.{least, top}
use Rattle.marginals.proofs.Lawful.{agreeing}
use Rattle.modulo.specs.Modulo.{modulo, Stands, reliability_modulo}
use Rattle.modulo.specs.Spread.{Connected, Served, IsModest}
use Rattle.modulo.proofs.Stand.{columns_stand}
use Rattle.modulo.proofs.Windows.{still_stands}
use Rattle.modulo.proofs.Bits.{bit_within, bits_stand}
use Rattle.reliabilities.specs.Kept.{kept_modulo, Tells}
use Rattle.reliabilities.specs.LeastTells.{columns}

-- a trellis with some reach and costs that are not too high
pub connected : {states ceiling bits reach : ℕ} (m : Meaning) → Lawful states ceiling bits m → Reaches states reach m → 1 ≤ reach → ceiling < 131072
    → Connected states ceiling bits reach m
connected m law reaches some cheap = record { lawful = law; reaches = reaches; some_reach = some; low_ceiling = cheap }

-- one that modulo normalisation serves
pub served : {states ceiling bits reach : ℕ} (m : Meaning) → Lawful states ceiling bits m → Reaches states reach m → 1 ≤ reach → (2 * reach + 1) * ceiling < 32768
    → Served states ceiling bits reach m
served {states} {ceiling} {bits} {reach} m law reaches some modest =
    let three : 3 * ceiling ≤ (2 * reach + 1) * ceiling = mul-le-mul_right ceiling (omega arith) in
    record { connected = connected m law reaches some (omega arith); modest = modest }

-- what is kept of a least cost is what stands for it
kept_stands : (x y : ℕ) → Stands x y → kept_modulo x ≡ y
unfolding kept_modulo
kept_stands x y (inl p) = rw (eq-eqb x top p.0) (sym p.1)
kept_stands x y (inr p) = let low = p.0 in rw (ne_eqb x top (λ e. omega arith)) (sym p.1)

-- between columns f and g that keep the least costs before and after stage k
module _ {states ceiling bits reach : ℕ} (m : Meaning) (h : Served states ceiling bits reach m) (k : ℕ) (here : k < m.stages) (f g : ℕ → ℕ)
    (forth : (s : ℕ) → s < states → f s ≡ kept_modulo (path_join least (before states m k s))) (back : (s : ℕ) → s < states → g s ≡ kept_modulo (path_join least (after m (suc k) s))) where
  -- the edges offer what they offer between the columns of a pass
  as_passed : (b v x : ℕ) → Joins modulo (candidate modulo f g (m.edges k)) (edges_with (m.edges k) b v) x
      → Joins modulo (candidate modulo (forward modulo states m k) (backward modulo states m (suc k)) (m.edges k)) (edges_with (m.edges k) b v) x
  as_passed =
      let law = h.connected.lawful in
      agreeing m law k here f g (forward modulo states m k) (backward modulo states m (suc k))
      (λ s l. forth s l ∙ ap kept_modulo (sym ((columns m law).forth k s (omega arith) l)) ∙ kept_stands _ _ (columns_stand states ceiling bits reach m h k s (omega arith) l).0)
      (λ s l. back s l ∙ ap kept_modulo (sym ((columns m law).back (suc k) s (omega arith) l)) ∙ kept_stands _ _ (columns_stand states ceiling bits reach m h (suc k) s (omega arith) l).1)

  -- and what is joined of it is what is kept of the least cost
  pub modulo_joined : (b v x : ℕ) → Joins modulo (candidate modulo f g (m.edges k)) (edges_with (m.edges k) b v) x → x ≡ kept_modulo (path_join least (paths_with states m k b v))
  modulo_joined b v x joins = sym (kept_stands _ _ (still_stands _ _ _ _ (bit_within states ceiling bits reach m h k b v here x (as_passed b v x joins))))

pub modulo_tells : Tells modulo kept_modulo IsModest (λ zero one. Unit {0}) reliability_modulo
modulo_tells states ceiling bits reach m law reaches serves k here f g forth back b x y zero one =
    let h = served m law reaches serves.0 serves.1 in
    (tt, bits_stand states ceiling bits reach m h k b here x y (as_passed m h k here f g forth back b 0 x zero) (as_passed m h k here f g forth back b 1 y one))
