-- Setting bit j costs its one in the place of its zero.
use Rattle.std.proofs.Common.{◌≡◌, ◌+◌, ℕ, List, ℤ, get_or, pos, length, zero-add, add-one, ◌^◌, ◌∙◌, arith, rules, w16, SFits, to_z, of_z}
use native.Mathlib.Nat.{pow-succ'}
use Rattle.std.proofs.lemmas.Int.{to_z-of_z}
use Rattle.trellises.specs.Priors.{penalty}
use Rattle.trellises.proofs.WordPenalties.{penalties_set, penalties_doubled}
use Rattle.trellises.proofs.words.word_penalties.Goals as goal

pow-twice : (j : ℕ) → 2 ^ (j + 1) ≡ 2 ^ j + 2 ^ j
pow-twice j = grind (arith, pow-succ' 2 j, add-one j)

-- what was paid by the prior that was read
by_prior : (priors : List ℤ) (j r b : ℕ) → SFits w16 (get_or priors j (pos 0)) → r ≡ penalty (to_z w16 (of_z w16 (get_or priors j (pos 0)))) b
    → r ≡ penalty (get_or priors (0 + j) (pos 0)) b
by_prior priors j r b f e = rw zero-add (simp to_z-of_z at e)

pub double-requires-clause-paid : goal.double-requires-clause-paid
double-requires-clause-paid c w h =
    let priors = c.args.priors.now in
    let nil = by_prior priors c.loop-j.j c.penalty.result 0 (search rules) c.penalty.ensures in
    let one = by_prior priors c.loop-j.j c.penalty-in-loop-j.result 1 (search rules) c.penalty-in-loop-j.ensures in
    omega (arith, c.loop-j.invariant.laid w (omega arith), penalties_set priors 0 c.loop-j.j w (omega arith) (length priors) (omega arith))

pub loop-j-preserved : goal.loop-j-preserved
loop-j-preserved c =
    let priors = c.args.priors.now in
    let j = c.loop-j.j in
    let twice : 2 ^ (j + 1) ≡ 2 ^ j + 2 ^ j = pow-twice j in
    record {
      laid = penalties_doubled priors 0 (length priors) j c.word_count.result c.penalty.result c.penalty-in-loop-j.result
          c.loop-j.out c.double.new.out (omega arith) c.word_count.ensures
          (by_prior priors j c.penalty.result 0 (search rules) c.penalty.ensures)
          (by_prior priors j c.penalty-in-loop-j.result 1 (search rules) c.penalty-in-loop-j.ensures)
          c.loop-j.invariant.laid c.double.ensures.low c.double.ensures.high;
      rest = λ w h. let is = c.word_count.ensures in c.double.ensures.rest w (omega arith) ∙ c.loop-j.invariant.rest w (omega arith);
    }

pub returns : goal.returns
returns c =
    let e : c.loop-j.j ≡ length c.args.priors.now = omega arith in
    record { laid = λ w h. c.loop-j.invariant.laid w (rw e h); rest = λ w h. c.loop-j.invariant.rest w (rw e h) }
