-- The outer trellis is lawful, and two stages lead from each state to each.
use Rattle.std.specs.Prelude.{ℕ, suc, ◌+◌, ◌*◌, ◌/◌, ◌%◌, ◌≤◌, List, ℤ, pos, slice_index_or}
use Rattle.std.proofs.Common.{arith}
use Rattle.std.proofs.lemmas.Bool.{eqb-true}
use Rattle.paths.specs.Trellises.{Lawful, LawfulEdge, Reaches}
use Rattle.trellises.specs.Counts.{each_counted, nth_counted}
use Rattle.trellises.specs.Bounds.{penalty_low}
use Rattle.trellises.specs.Outer.{first_coded, second_coded, outer, outer_at}

pub outer_lawful : (n : ℕ) (priors : List ℤ) → (1 ≤ n) × (n ≤ 16384) → Lawful 4 1022 3 (outer n priors)
outer_lawful n priors h =
    record {
      some_states = omega arith;
      few_states = omega arith;
      few_bits = omega arith;
      some_stages = h.0;
      few_stages = h.1;
      some_edges = λ k b. omega arith;
      few_edges = λ k b. omega arith;
      every = λ k b. each_counted (LawfulEdge 4 1022 3) (outer_at priors k) 0 8 (λ i c.
          let p = penalty_low (slice_index_or priors (2 * k) (pos 0)) (first_coded (i / 2) (i % 2)) in
          let q = penalty_low (slice_index_or priors (2 * k + 1) (pos 0)) (second_coded (i / 2) (i % 2)) in
          record { from_low = omega arith; to_low = omega arith; word_low = omega arith; cheap = omega arith });
      first_low = λ s e. omega (arith, eqb-true s 0 e);
      last_low = λ s e. omega (arith, eqb-true s 0 e);
    }

pub outer_reaches : (n : ℕ) (priors : List ℤ) → Reaches 4 2 (outer n priors)
outer_reaches n priors k s t some within low below =
    let i = 2 * s + t / 2 in
    let j = 2 * (t / 2 + 2 * (s % 2)) + t % 2 in (
      outer_at priors k i,
      (i, nth_counted (outer_at priors k) 8 i (omega arith)),
      omega arith,
      (outer_at priors (suc k) j, (j, nth_counted (outer_at priors (suc k)) 8 j (omega arith)), omega arith, omega arith),
    )
