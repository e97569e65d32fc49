-- Between the columns of a pass, the marginals of a semiring are joins over all paths.
use Rattle.std.proofs.Common.{◌≡◌, ℕ, suc, ◌<◌, Some, None, Option, refl, ap, ◌∙◌, Bool}
use Rattle.std.specs.List.{slice_get}
use Rattle.paths.specs.declared.edges.Edge.{Edge}
use Rattle.paths.specs.Semirings.{Operations, Semiring}
use Rattle.paths.specs.Trellises.{Meaning, Lawful}
use Rattle.paths.specs.Paths.{path_join, paths_with}
use Rattle.paths.specs.Columns.{forward, backward}
use Rattle.paths.specs.Joins.{Joins, offered, candidate, edges_with}
use Rattle.paths.proofs.BitJoins.{bits_are_joins}
use Rattle.paths.proofs.Inside.{edge_lawful}
use Rattle.marginals.specs.declared.room.Room.{Room}
use Rattle.marginals.specs.Rooms.{Leaves}
use Rattle.marginals.proofs.Picks.{joins_of}

-- an edge offers the same between columns that agree in its states
same_offer : {W : Type 0} (o : Operations W) (states : ℕ) (f g f' g' : ℕ → W) → ((s : ℕ) → s < states → f s ≡ f' s) → ((s : ℕ) → s < states → g s ≡ g' s)
    → (r : Option Edge) → ((e : Edge) → r ≡ Some e → (e.from < states) × (e.to < states)) → offered o f g r ≡ offered o f' g' r
same_offer o states f g f' g' p q None low = refl
same_offer o states f g f' g' p q (Some e) low =
    let l = low e refl in
    ap (λ x. o.chain (o.chain x (g e.to)) (o.value e.cost)) (p e.from l.0) ∙ ap (λ x. o.chain (o.chain (f' e.from) x) (o.value e.cost)) (q e.to l.1)

-- columns that agree in the states give the same joins, of whichever edges
pub agreeing_where : {W : Type 0} {o : Operations W} {states ceiling bits : ℕ} (m : Meaning) → Lawful states ceiling bits m → (k : ℕ) → k < m.stages
    → (f g f' g' : ℕ → W) → ((s : ℕ) → s < states → f s ≡ f' s) → ((s : ℕ) → s < states → g s ≡ g' s)
    → (p : ℕ → Bool) (x : W) → Joins o (candidate o f g (m.edges k)) p x → Joins o (candidate o f' g' (m.edges k)) p x
agreeing_where {W} {o} {states} m law k here f g f' g' p q test x joins =
    joins_of _ _
    (λ i. same_offer o states f g f' g' p q (slice_get (m.edges k) i) (λ e at. let l = edge_lawful law k here i e at in (l.from_low, l.to_low)))
    test x joins

pub agreeing : {W : Type 0} {o : Operations W} {states ceiling bits : ℕ} (m : Meaning) → Lawful states ceiling bits m → (k : ℕ) → k < m.stages
    → (f g f' g' : ℕ → W) → ((s : ℕ) → s < states → f s ≡ f' s) → ((s : ℕ) → s < states → g s ≡ g' s)
    → (b v : ℕ) (x : W) → Joins o (candidate o f g (m.edges k)) (edges_with (m.edges k) b v) x → Joins o (candidate o f' g' (m.edges k)) (edges_with (m.edges k) b v) x
agreeing m law k here f g f' g' p q b v x joins = agreeing_where m law k here f g f' g' p q (edges_with (m.edges k) b v) x joins

-- and leave the same in a room
pub leaves_of : {W : Type 0} {o : Operations W} {states ceiling bits : ℕ} (m : Meaning) → Lawful states ceiling bits m → (k : ℕ) → k < m.stages
    → (f g f' g' : ℕ → W) → ((s : ℕ) → s < states → f s ≡ f' s) → ((s : ℕ) → s < states → g s ≡ g' s)
    → (n : ℕ) (old new : Room W) → Leaves o states n (m.edges k) f g old new → Leaves o states n (m.edges k) f' g' old new
leaves_of {W} {o} m law k here f g f' g' p q n old new l =
    record {
      costs = l.costs;
      costs_rest = l.costs_rest;
      frame = λ s t h i. l.frame s t h i ∙ ap (λ x. o.chain x (g t)) (p s h) ∙ ap (o.chain (f' s)) (q t i);
      frame_rest = l.frame_rest;
      first_word = agreeing_where m law k here f g f' g' p q _ _ l.first_word;
      words = λ b x low above below. agreeing_where m law k here f g f' g' p q _ _ (l.words b x low above below);
      words_rest = l.words_rest;
      bits_rest = l.bits_rest;
    }

pub over_paths : {W : Type 0} {fine : W → Type 0} {o : Operations W} → Semiring fine o → {states ceiling bits : ℕ} (m : Meaning) → Lawful states ceiling bits m → (k : ℕ) → k < m.stages
    → (f g : ℕ → W) → ((s : ℕ) → s < states → f s ≡ forward o states m k s) → ((s : ℕ) → s < states → g s ≡ backward o states m (suc k) s)
    → (b v : ℕ) (x : W) → Joins o (candidate o f g (m.edges k)) (edges_with (m.edges k) b v) x → x ≡ path_join o (paths_with states m k b v)
over_paths {W} {fine} {o} laws {states} {ceiling} {bits} m law k here f g forth back b v x joins =
    bits_are_joins {fine = fine} {o = o} laws states ceiling bits m law k b v here x (agreeing m law k here f g (forward o states m k) (backward o states m (suc k)) forth back b v x joins)
