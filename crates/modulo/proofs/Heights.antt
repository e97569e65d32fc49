-- No cost of a column passes the ceiling for each stage, and so none comes near the top.
use Rattle.std.proofs.Common.{◌≡◌, ℕ, zero, suc, ◌+◌, ◌*◌, ◌<◌, ◌≤◌, min, cond, ap, ⊎_elim, mul-le-mul_right, arith}
use Rattle.std.proofs.lemmas.Bool.{cases_Bool}
use Rattle.paths.specs.Trellises.{Meaning, Lawful}
use Rattle.paths.specs.Columns.{parallel, forward}
use Rattle.paths.specs.Least.{least, top}
use Rattle.paths.proofs.Inside.{edge_lawful}
use Rattle.modulo.proofs.Below.{below_held}
use Rattle.modulo.proofs.Steps.{step_back}

-- no entry is above the top
pub held : (states : ℕ) (m : Meaning) (k s : ℕ) → forward least states m k s ≤ top
unfolding forward
held states m zero s = ⊎_elim (λ q. rw q (omega arith)) (λ q. rw q (omega arith)) (cases_Bool (m.first s))
held states m (suc k) t = below_held states (λ s. min (forward least states m k s + parallel least (m.edges k) s t) top)

module _ (states ceiling bits : ℕ) (m : Meaning) (lawful : Lawful states ceiling bits m) where
  pub high : (k s : ℕ) → k ≤ m.stages → forward least states m k s < top → forward least states m k s ≤ k * ceiling
  unfolding forward
  high zero s within h =
      ⊎_elim
      (λ q. let l : cond (m.first s) 0 top ≡ 0 = rw q in omega arith)
      (λ q. let l : cond (m.first s) 0 top ≡ top = rw q in omega arith)
      (cases_Bool (m.first s))
  high (suc k) s within h =
      let b = step_back states ceiling bits m lawful k s h in
      let e = b.0 in
      let q = b.3 in
      let cheap = (edge_lawful lawful k (omega arith) b.1.0 e b.1.1).cheap in
      let l = high k e.from (omega arith) (omega arith) in
      omega arith

  -- a cost, an edge's cost and the ceiling for each of the n stages left
  pub room : ceiling < 131072 → (k s n x : ℕ) → n + suc k ≡ m.stages → forward least states m k s < top → x ≤ ceiling
      → forward least states m k s + x + n * ceiling < 2147483648
  room low k s n x at some cheap =
      let a = high k s (omega arith) some in
      let b : (n + suc k) * ceiling ≡ m.stages * ceiling = ap (λ n. n * ceiling) at in
      let few = lawful.few_stages in
      let c : m.stages * ceiling ≤ 16384 * ceiling = mul-le-mul_right ceiling few in
      omega arith
