-- No interleaved bit of the inner trellis is forced.
use Rattle.std.proofs.Common.{◌≡◌, ℕ, zero, suc, ◌+◌, ◌-◌, ◌*◌, ◌%◌, ◌^◌, ◌<◌, ◌≤◌, sym, refl, ap, ◌∙◌, subst, ⊎_elim, mod-eq_of_lt, arith}
use native.Mathlib.Nat.{pow-le-pow_right, div-eq_of_lt, pow-succ'}
use Rattle.std.proofs.lemmas.Nat.{pow_pos, shl-shr}
use Rattle.std.proofs.lemmas.Bool.{cases_eq, lt-ltb, eq-eqb}
use Rattle.paths.specs.Trellises.{Meaning, Linked, Reaches}
use Rattle.paths.specs.Paths.{bit_is}
use Rattle.trellises.specs.Counts.{nth_counted}
use Rattle.trellises.specs.Bounds.{accumulated_low}
use Rattle.trellises.specs.Priors.{bit}
use Rattle.trellises.specs.Inner.{accumulated, inner, inner_at}
use Rattle.trellises.specs.InnerLaws.{inner_lawful, inner_reaches}
use Rattle.trellises.specs.Forced.{InterleavedBitsFree}
use Rattle.trellises.proofs.Taken.{taken_cheap}

-- where one stage leads from each state to each, a path may stay in a state
stays : (states : ℕ) (m : Meaning) → Reaches states 1 m → (s : ℕ) → s < states → (d k : ℕ) → k + d ≤ m.stages → Linked m d k s s
stays states m r s l zero k h = refl
stays states m r s l (suc d) k h =
    let one = r k s s (omega arith) (omega arith) l l in
    (one.0, one.1, one.2, subst (λ x. Linked m d (suc k) x s) (sym one.3) (stays states m r s l d (suc k) (omega arith)))

-- the word whose one bit that may be set is bit b
word_low : (m b v : ℕ) → b < m → v < 2 → v * 2 ^ b < 2 ^ m
word_low m b v here low =
    let q = pow-le-pow_right {n = 2} (omega arith) {i = suc b} {j = m} here in
    let u : 2 ^ suc b ≡ 2 * 2 ^ b = pow-succ' 2 b in
    let p = pow_pos b in
    ⊎_elim (λ (e : v ≡ 0). rw e (omega arith)) (λ (e : v ≡ 0 → ⊥). let o : v ≡ 1 = omega arith in rw o (omega arith)) (cases_eq v 0)

pub interleaved_free : InterleavedBitsFree
interleaved_free m n rows priors h k b v low here v_low =
    let t = inner m n rows priors in
    let r = inner_reaches m n rows priors h in
    let word = v * 2 ^ b in
    let w = word_low m b v here v_low in
    let e = inner_at m rows priors k word in
    let f = div-eq_of_lt {n = word} {m = 2 ^ m} w in
    let g = mod-eq_of_lt {n = word} {m = 2 ^ m} w in
    let to_low : e.to < 2 = subst (λ x. accumulated x (word % 2 ^ m) m < 2) (sym f) (accumulated_low 0 (word % 2 ^ m) m (omega arith)) in
    let set : bit (word % 2 ^ m) b ≡ v = ap (λ x. bit x b) g ∙ ap (λ x. x % 2) (shl-shr v b) ∙ omega arith in
    taken_cheap (inner_lawful m n rows priors h) (bit_is b v) k low (omega arith) (
    record {
      start = 0;
      end = e.to;
      edge = e;
      starts = refl;
      ends = lt-ltb e.to 2 to_low;
      before = subst (λ x. Linked t k 0 0 x) (sym f) (stays 2 t r 0 (omega arith) k 0 (omega arith));
      here = (word, nth_counted (inner_at m rows priors k) (2 * 2 ^ m) word (omega arith));
      after = stays 2 t r e.to to_low (n - suc k) (suc k) (omega arith);
      passes = eq-eqb (bit (word % 2 ^ m) b) v set;
    }
    )
