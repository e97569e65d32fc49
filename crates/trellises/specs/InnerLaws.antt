-- The inner trellis is lawful, and one stage leads from each state to each.
use Rattle.std.specs.Prelude.{◌≡◌, ℕ, zero, suc, ◌+◌, ◌*◌, ◌/◌, ◌%◌, ◌^◌, ◌<◌, ◌≤◌, List, ℤ}
use Rattle.std.proofs.Common.{ap, ◌∙◌, arith}
use Rattle.std.proofs.Math.Nat.{pow-succ', div-eq_of_lt}
use Rattle.std.proofs.lemmas.Nat.{pow_pos, div_below, mod_below, div-mul-add, mod-mul-add, mul-add-lt}
use Rattle.std.proofs.lemmas.List.FromFn.{length-map-range_with_len}
use Rattle.std.proofs.lemmas.Bool.{ltb-true, eqb-true}
use Rattle.paths.specs.Trellises.{Lawful, LawfulEdge, Reaches}
use Rattle.trellises.specs.Priors.{bit}
use Rattle.trellises.specs.Inner.{accumulated, inner, inner_at}
use Rattle.trellises.specs.Counts.{each_counted, nth_counted}
use Rattle.trellises.specs.Bounds.{penalties_low, accumulated_low, few_words}

-- the sizes that a block's symbols may have
abbrev pub InnerSizes : ℕ → ℕ → Type 0
InnerSizes m n = (1 ≤ m) × (m ≤ 8) × (1 ≤ n) × (n ≤ 16384)

pub inner_lawful : (m n : ℕ) (rows : List ℕ) (priors : List ℤ) → InnerSizes m n → Lawful 2 4343 m (inner m n rows priors)
inner_lawful m n rows priors h =
    let few = few_words m h.1 in
    let some = pow_pos m in
    record {
      some_states = omega arith;
      few_states = omega arith;
      few_bits = h.1;
      some_stages = h.2;
      few_stages = h.3;
      some_edges = λ k b. let l = length-map-range_with_len (inner_at m rows priors k) 0 (2 * 2 ^ m) in omega arith;
      few_edges = λ k b. let l = length-map-range_with_len (inner_at m rows priors k) 0 (2 * 2 ^ m) in omega arith;
      every = λ k b. each_counted (LawfulEdge 2 4343 m) (inner_at m rows priors k) 0 (2 * 2 ^ m) (λ i c.
          let from : i / 2 ^ m < 2 = div_below i (2 ^ m) 2 (pow_pos m) (omega arith) in
          let low = penalties_low priors (k * m) (i % 2 ^ m) m in
          record {
            from_low = from;
            to_low = accumulated_low (i / 2 ^ m) (i % 2 ^ m) m from;
            word_low = mod_below i (2 ^ m) (pow_pos m);
            cheap = omega arith;
          });
      first_low = λ s e. omega (arith, eqb-true s 0 e);
      last_low = λ s e. ltb-true s 2 e;
    }

-- a word of one bit turns every accumulated bit by it
turned : (from word j : ℕ) → from < 2 → word < 2 → accumulated from word (suc j) ≡ (word + from) % 2
turned from word zero h w = omega arith
turned from word (suc j) h w =
    let p : 2 ^ suc j ≡ 2 * 2 ^ j = pow-succ' 2 j in
    let q = pow_pos j in
    let b : bit word (suc j) ≡ 0 = ap (λ x. x % 2) (div-eq_of_lt {n = word} {m = 2 ^ suc j} (omega arith)) in
    let r = turned from word j h w in
    omega arith

pub inner_reaches : (m n : ℕ) (rows : List ℕ) (priors : List ℤ) → InnerSizes m n → Reaches 2 1 (inner m n rows priors)
inner_reaches zero n rows priors h k s t some within low below = absurd (omega arith)
inner_reaches (suc m) n rows priors h k s t some within low below =
    let word = (s + t) % 2 in
    let p : 2 ^ suc m ≡ 2 * 2 ^ m = pow-succ' 2 m in
    let q = pow_pos m in
    let w : word < 2 ^ suc m = omega arith in
    let i = s * 2 ^ suc m + word in
    let f = div-mul-add s (2 ^ suc m) word w in
    let g = mod-mul-add s (2 ^ suc m) word w in
    let l : i < 2 * 2 ^ suc m = omega (arith, mul-add-lt s (2 ^ suc m) word 2 low w) in
    let r = turned s word m low (omega arith) in
    let e : accumulated (i / 2 ^ suc m) (i % 2 ^ suc m) (suc m) ≡ t = ap (λ x. accumulated x (i % 2 ^ suc m) (suc m)) f ∙ ap (λ x. accumulated s x (suc m)) g ∙ r ∙ omega arith in
    (inner_at (suc m) rows priors k i, (i, nth_counted (inner_at (suc m) rows priors k) (2 * 2 ^ suc m) i l), f, e)
