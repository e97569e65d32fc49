-- What the fold by halves leaves is joined of the edges whose lowest bits, or whose bit, are so.
use Rattle.std.proofs.Common.{◌≡◌, ℕ, zero, suc, ◌+◌, ◌-◌, ◌*◌, ◌%◌, ◌^◌, ◌<◌, Bool, ◌&&◌, eqb, ltb, leb, List, Some, None, Option, sym, refl, ap, mod-eq_of_lt, arith}
use native.Mathlib.Nat.{pow-succ'}
use Rattle.std.specs.List.{slice_get}
use Rattle.std.proofs.lemmas.Bool.Decides.{nat_tests}
use Rattle.paths.specs.declared.edges.Edge.{Edge}
use Rattle.paths.specs.Semirings.{Operations}
use Rattle.paths.specs.Paths.{bit_is}
use Rattle.paths.specs.Joins.{Joins, has_bit, edges_with}
use Rattle.marginals.specs.Words.{passes, picked, word_is, word_below}
use Rattle.marginals.specs.Halves.{halved, lower, upper}
use Rattle.marginals.proofs.Picks.{joins_where, picks_same, picks_both, picks_below}
use Rattle.marginals.proofs.Words.{either_half, apart_halves, lower_half, upper_half}

-- the lowest n bits of an edge's word are x
abbrev low_is : ℕ → ℕ → Edge → Bool
low_is n x e = eqb (e.word % 2 ^ n) x

passes_bit : (b v : ℕ) (t : Edge → Bool) → ((e : Edge) → t e ≡ bit_is b v e) → (e : Option Edge) → passes t e ≡ has_bit b v e
passes_bit b v t same None = refl
passes_bit b v t same (Some e) = same e

module _ {W : Type 0} {o : Operations W} (f g : ℕ → W) (es : List Edge) (bits : ℕ) (words : (i : ℕ) (e : Edge) → slice_get es i ≡ Some e → e.word < 2 ^ bits) (each : (w : ℕ) → w < 2 ^ bits → Joins o f (word_is es w) (g w)) where
  pub halved_joins : (d b x : ℕ) → b + d ≡ bits → x < 2 ^ b → Joins o f (word_below es b x) (halved o g b d x)
  unfolding halved
  halved_joins zero b x all h =
      let e : b ≡ bits = omega arith in
      let whole : (i : ℕ) (e : Edge) → slice_get es i ≡ Some e → e.word % 2 ^ b ≡ e.word = λ i v at. mod-eq_of_lt (rw e (words i v at)) in
      picks_same f es (λ e. eqb e.word x) (low_is b x) (g x) (λ i e at. ap (λ n. eqb n x) (sym (whole i e at))) (each x (rw e at h))
  halved_joins (suc d) b x all h =
      let twice : 2 ^ suc b ≡ 2 * 2 ^ b = pow-succ' 2 b in
      picks_both f es (low_is (suc b) x) (low_is (suc b) (2 ^ b + x)) (low_is b x) _ _
      (λ e. apart_halves b e.word x) (λ e. either_half b e.word x h)
      (halved_joins d (suc b) x (omega arith) (omega arith)) (halved_joins d (suc b) (2 ^ b + x) (omega arith) (omega arith))

  -- the edges whose bit b is 0, and those whose bit b is 1
  pub lower_joins : (b : ℕ) → b < bits → Joins o f (edges_with es b 0) (lower o g bits b)
  lower_joins b h =
      let twice : 2 ^ suc b ≡ 2 * 2 ^ b = pow-succ' 2 b in
      joins_where f (picked es (λ e. ltb (e.word % 2 ^ suc b) (2 ^ b))) (edges_with es b 0) _ (λ i. passes_bit b 0 (λ e. ltb (e.word % 2 ^ suc b) (2 ^ b)) (λ e. lower_half b e.word) (slice_get es i))
      (picks_below f es (low_is (suc b)) (λ n e. ltb (e.word % 2 ^ suc b) n) (halved o g (suc b) (bits - suc b))
      (λ e. grind (arith, nat_tests)) (λ n e. grind (arith, nat_tests)) (λ n e p q. grind (arith, nat_tests))
      (2 ^ b) (λ x l. halved_joins (bits - suc b) (suc b) x (omega arith) (omega arith)))

  pub upper_joins : (b : ℕ) → b < bits → Joins o f (edges_with es b 1) (upper o g bits b)
  upper_joins b h =
      let twice : 2 ^ suc b ≡ 2 * 2 ^ b = pow-succ' 2 b in
      joins_where f (picked es (λ e. leb (2 ^ b) (e.word % 2 ^ suc b) && ltb (e.word % 2 ^ suc b) (2 ^ b + 2 ^ b))) (edges_with es b 1) _
      (λ i. passes_bit b 1 (λ e. leb (2 ^ b) (e.word % 2 ^ suc b) && ltb (e.word % 2 ^ suc b) (2 ^ b + 2 ^ b)) (λ e. upper_half b e.word) (slice_get es i))
      (picks_below f es (λ n. low_is (suc b) (2 ^ b + n)) (λ n e. leb (2 ^ b) (e.word % 2 ^ suc b) && ltb (e.word % 2 ^ suc b) (2 ^ b + n)) (λ x. halved o g (suc b) (bits - suc b) (2 ^ b + x))
      (λ e. grind (arith, nat_tests)) (λ n e. grind (arith, nat_tests)) (λ n e p q. grind (arith, nat_tests))
      (2 ^ b) (λ x l. halved_joins (bits - suc b) (suc b) (2 ^ b + x) (omega arith) (omega arith)))
