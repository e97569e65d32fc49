-- What is sent on about a bit that is not forced, by its least costs where nothing is told about it.
use Rattle.std.proofs.Common.{◌≡◌, ℕ, ◌+◌, ◌<◌, Bool, cond, eqb, List, ℤ, pos, negsuc, ◌-ℤ◌, Some, None, sym, refl, ap, ◌∙◌, arith}
use Rattle.std.specs.Option.{option_map}
use Rattle.std.proofs.lemmas.Bool.{ne_eqb, cond-false}
use Rattle.paths.specs.declared.edges.Edge.{Edge}
use Rattle.paths.specs.Trellises.{Lawful}
use Rattle.paths.specs.Paths.{path_join, paths_with}
use Rattle.paths.specs.Least.{least, top}
use Rattle.modulo.specs.Modulo.{reliability}
use Rattle.modulo.specs.Priors.{zero_penalty, one_penalty, extrinsic, reliability_under}
use Rattle.modulo.proofs.LeftOut.{prior_left_out}
use Rattle.trellises.specs.Priors.{penalty}
use Rattle.extrinsics.specs.Extrinsics.{sent_on, Within511}
use Rattle.extrinsics.proofs.Charged.{Told, trellis, told_join}

-- a bit that takes both values has a reliability
both_values : (z o : ℕ) → z < top → o < top → reliability z o ≡ Some (pos z -ℤ pos o)
unfolding reliability
both_values z o p q =
    cond-false (eqb z top) None (cond (eqb o top) None (Some (pos z -ℤ pos o))) (ne_eqb z top (λ e. omega arith))
    ∙ cond-false (eqb o top) None (Some (pos z -ℤ pos o)) (ne_eqb o top (λ e. omega arith))

-- a prior within -511 to 511 is not held back
zero_whole : (prior : ℤ) → Within511 prior → penalty prior 0 ≡ zero_penalty prior
zero_whole (pos n) h = omega arith
zero_whole (negsuc n) h = refl

one_whole : (prior : ℤ) → Within511 prior → penalty prior 1 ≡ one_penalty prior
one_whole (pos n) h = refl
one_whole (negsuc n) h = omega arith

module _ (states ceiling bits n : ℕ) (first last : ℕ → Bool) (g : ℕ → List Edge) (law : Lawful states ceiling bits (trellis n first last g)) (k b : ℕ) (low : k < n) where
  -- the trellis told a prior of one bit, which is not forced
  pub record Open (prior : ℤ) (h : ℕ → List Edge) : Type 0 where
    pub lawful : Lawful states ceiling bits (trellis n first last h)
    pub told : Told k b prior g h
    pub within : Within511 prior
    pub zero_free : path_join least (paths_with states (trellis n first last h) k b 0) < top
    pub one_free : path_join least (paths_with states (trellis n first last h) k b 1) < top

  -- the number that is sent on, by the least costs without the prior
  under : (prior : ℤ) (h : ℕ → List Edge) → Open prior h → sent_on states (trellis n first last h) k b prior
      ≡ Some (extrinsic (reliability_under (path_join least (paths_with states (trellis n first last g) k b 0)) (path_join least (paths_with states (trellis n first last g) k b 1)) prior) prior)
  under prior h o =
      let Z = path_join least (paths_with states (trellis n first last g) k b 0) in
      let O = path_join least (paths_with states (trellis n first last g) k b 1) in
      let z = path_join least (paths_with states (trellis n first last h) k b 0) in
      let i = path_join least (paths_with states (trellis n first last h) k b 1) in
      let p = told_join states n first last k b prior g h o.told ceiling bits law o.lawful 0 low in
      let q = told_join states n first last k b prior g h o.told ceiling bits law o.lawful 1 low in
      let s = zero_whole prior o.within in
      let t = one_whole prior o.within in
      let zero : z ≡ Z + zero_penalty prior = omega (arith, o.zero_free) in
      let one : i ≡ O + one_penalty prior = omega (arith, o.one_free) in
      ap (option_map (λ r. extrinsic r prior)) (both_values z i o.zero_free o.one_free)
      ∙ ap (λ z. Some (extrinsic (pos z -ℤ pos i) prior)) zero
      ∙ ap (λ i. Some (extrinsic (pos (Z + zero_penalty prior) -ℤ pos i) prior)) one

  -- so two priors of one bit come to the same
  pub left_out : (x y : ℤ) (h h' : ℕ → List Edge) → Open x h → Open y h' → sent_on states (trellis n first last h) k b x ≡ sent_on states (trellis n first last h') k b y
  left_out x y h h' o p =
      under x h o
      ∙ ap Some (prior_left_out (path_join least (paths_with states (trellis n first last g) k b 0)) (path_join least (paths_with states (trellis n first last g) k b 1)) x y)
      ∙ sym (under y h' p)
