-- However neighbouring metastages are made one, the last holds the join over all paths.
use Rattle.std.proofs.Common.{◌≡◌, ℕ, ◌+◌, ◌-◌, ◌<◌, ◌≤◌, eqb, List, [], ◌∷◌, map, length, sym, refl, ap, ◌∙◌, arith}
use Rattle.paths.specs.declared.edges.Edge.{Edge}
use Rattle.paths.specs.Semirings.{Operations, Semiring}
use Rattle.paths.specs.Trellises.{Each}
use Rattle.paths.specs.Paths.{walks, across, path_join}
use Rattle.paths.specs.Metastages.{of_stage, product, stages_from, merges}
use Rattle.paths.specs.Laws.{GroupingsAgree}
use Rattle.paths.proofs.Inside.{Low, inside}
use Rattle.paths.proofs.Overs.{over_below}
use Rattle.paths.proofs.Carried.{carried, stops, carried_add, stops_fine, carried_fine, walks_carried, stage_carried, carried_split}
use Rattle.paths.proofs.Products.{first_to_last_is}
use Rattle.paths.proofs.Trees.{Tree, leaf, node, fringe, grouped, length_from, cut, map_merges, fringe_merges, fringe_leaves, map_leaves, made}

module _ {W : Type 0} {fine : W → Type 0} {o : Operations W} (laws : Semiring fine o) where
  module _ (g : ℕ → List Edge) (states limit : ℕ) (low : (k : ℕ) → k < limit → Each (Low states) (g k)) where
    grouped_carried : (tree : Tree) (k n : ℕ) → fringe tree ≡ stages_from k n → k + n ≤ limit → (s t : ℕ) → s < states → t < states
        → grouped o states g tree s t ≡ carried o g (stops o (λ v. eqb v t)) k n s
    grouped_carried (leaf j) k n h within s t small little =
        let long : n ≡ 1 = sym (length_from k n) ∙ sym (ap length h) in
        let same : j ∷ [] ≡ k ∷ [] = h ∙ ap (stages_from k) long in
        let e : j ≡ k = cc in
        ap (λ i. of_stage o (g i) s t) e ∙ stage_carried laws g k s t ∙ ap (λ i. carried o g (stops o (λ v. eqb v t)) k i s) (sym long)
    grouped_carried (node l r) k n h within s t small little =
        let c = cut (fringe l) (fringe r) k n h in
        let fits : k + c.a ≤ limit = omega (arith, c.all) in
        let fits_too : k + c.a + c.b ≤ limit = omega (arith, c.all) in
        let R : ℕ → W = carried o g (stops o (λ v. eqb v t)) (k + c.a) c.b in
        over_below o (λ v. o.chain (grouped o states g l s v) (grouped o states g r v t)) (λ v. o.chain (carried o g (stops o (λ u. eqb u v)) k c.a s) (R v)) states
        (λ v lt. ap (λ u. o.chain u (grouped o states g r v t)) (grouped_carried l k c.a c.left fits s v small lt)
        ∙ ap (o.chain (carried o g (stops o (λ u. eqb u v)) k c.a s)) (grouped_carried r (k + c.a) c.b c.right fits_too v t lt little))
        ∙ sym (carried_split laws g R (carried_fine laws g (stops o (λ v. eqb v t)) (stops_fine laws (λ v. eqb v t)) (k + c.a) c.b) states limit low k c.a s fits small)
        ∙ sym (carried_add o g (stops o (λ v. eqb v t)) k c.a c.b s)
        ∙ ap (λ i. carried o g (stops o (λ v. eqb v t)) k i s) c.all

module _ {W : Type 0} {fine : W → Type 0} {o : Operations W} where
  pub groupings_agree : GroupingsAgree fine o
  groupings_agree laws states ceiling bits m law places x h =
      let g = m.edges in
      let ks = stages_from 0 m.stages in
      let trees = merges node places (map leaf ks) in
      let k = made (grouped o states g) ks x trees
      (map_merges (grouped o states g) node (product o states) (λ a b. refl) places (map leaf ks) ∙ ap (merges (product o states) places) (map_leaves o states g ks) ∙ h)
      (fringe_merges places (map leaf ks) ∙ fringe_leaves ks) in
      let none_before : m.stages ≡ m.stages - 0 = omega arith in
      let entries : (s t : ℕ) → s < states → t < states → x s t ≡ path_join o (across m 0 m.stages s t) =
      λ s t small little.
      ap (λ y. y s t) (sym k.is)
      ∙ grouped_carried laws g states m.stages (inside law) k.tree 0 m.stages k.in_order (omega arith) s t small little
      ∙ sym (walks_carried laws g (λ v. eqb v t) 0 m.stages s)
      ∙ ap (λ n. path_join o (walks g (λ v. eqb v t) 0 n s)) none_before in
      (entries, first_to_last_is laws states m (inside law) x entries)
