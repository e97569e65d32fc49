-- Least costs as they are tell the true reliability.
use Rattle.std.proofs.Common.{◌≡◌, ℕ, suc, ◌<◌, length, sym, ap, ◌∙◌, subst, arith}
use Rattle.paths.specs.Trellises.{Meaning, Lawful}
use Rattle.paths.specs.Paths.{path_join, paths_with, before, after}
use Rattle.paths.specs.Columns.{forward, backward}
use Rattle.paths.specs.Joins.{Joins, candidate, edges_with}
use Rattle.paths.specs.Laws.{ColumnsAt}
use Rattle.paths.specs.Least.{least, FineCost}
use Rattle.paths.specs.LeastLaws.{least_laws}
use Rattle.paths.proofs.Passes.{columns_are_joins}
use Rattle.paths.proofs.BitJoins.{edges_with_low}
use Rattle.marginals.proofs.Lawful.{over_paths}
use Rattle.modulo.specs.Modulo.{reliability}
use Rattle.modulo.specs.Spread.{Near}
use Rattle.modulo.proofs.Bits.{bits_fit}
use Rattle.modulo.proofs.Finite.{joins_exist}
use Rattle.reliabilities.specs.Kept.{Tells}

pub columns : {states ceiling bits : ℕ} (m : Meaning) → Lawful states ceiling bits m → ColumnsAt least states m
columns {states} {ceiling} {bits} m law = columns_are_joins {fine = FineCost} {o = least} least_laws states ceiling bits m law

-- columns f and g that hold the least costs before and after stage k are those of a pass
module _ {states ceiling bits : ℕ} (m : Meaning) (law : Lawful states ceiling bits m) (k : ℕ) (here : k < m.stages) (f g : ℕ → ℕ)
    (forth : (s : ℕ) → s < states → f s ≡ path_join least (before states m k s)) (back : (s : ℕ) → s < states → g s ≡ path_join least (after m (suc k) s)) where
  pub least_forth : (s : ℕ) → s < states → f s ≡ forward least states m k s
  least_forth s h = forth s h ∙ sym ((columns m law).forth k s (omega arith) h)

  pub least_back : (s : ℕ) → s < states → g s ≡ backward least states m (suc k) s
  least_back s h = back s h ∙ sym ((columns m law).back (suc k) s (omega arith) h)

  -- what is joined of what the edges offer is the least cost
  joined : (b v x : ℕ) → Joins least (candidate least f g (m.edges k)) (edges_with (m.edges k) b v) x → x ≡ path_join least (paths_with states m k b v)
  joined = over_paths least_laws m law k here f g least_forth least_back

  -- and the least cost is joined so
  pub least_joins : (b v x : ℕ) → x ≡ path_join least (paths_with states m k b v) → Joins least (candidate least f g (m.edges k)) (edges_with (m.edges k) b v) x
  least_joins b v x is =
      let j = joins_exist least (candidate least f g (m.edges k)) (length (m.edges k)) (edges_with (m.edges k) b v) (edges_with_low (m.edges k) b v) in
      subst (Joins least (candidate least f g (m.edges k)) (edges_with (m.edges k) b v)) (joined b v j.0 j.1 ∙ sym is) j.1

pub least_tells : Tells least (λ x. x) (λ reach ceiling. ceiling < 131072) (Near 2147483647) reliability
least_tells states ceiling bits reach m law reaches cheap k here f g forth back b x y zero one =
    let z : x ≡ path_join least (paths_with states m k b 0) = joined m law k here f g forth back b 0 x zero in
    let u : y ≡ path_join least (paths_with states m k b 1) = joined m law k here f g forth back b 1 y one in
    let fit = bits_fit states ceiling bits m law cheap k b here in (
      subst (λ z. Near 2147483647 z y) (sym z) (subst (Near 2147483647 (path_join least (paths_with states m k b 0))) (sym u) fit),
      ap (λ z. reliability z y) z ∙ ap (reliability (path_join least (paths_with states m k b 0))) u,
    )
