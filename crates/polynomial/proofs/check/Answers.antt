-- The loop keeps the check of the bytes read so far.
use Rattle.std.proofs.Common.{◌≡◌, take, sym, refl, ap, ◌∙◌, subst}
use Rattle.std.proofs.lemmas.List.{take_all}
use Rattle.polynomial.specs.Polynomials.{remainder}
use Rattle.polynomial.specs.Bytes.{check_of, Checks}
use Rattle.polynomial.proofs.Checks.{checks}
use Rattle.polynomial.proofs.Division.{one_remainder}
use Rattle.polynomial.proofs.check.Goals as goal

pub loop-byte-init : goal.loop-byte-init
unfolding check_of remainder
loop-byte-init c = refl

pub returns-clause-meaning : goal.returns-clause-meaning
returns-clause-meaning c =
    let all : take c.loop-byte.byte-index c.args.bytes.now ≡ c.args.bytes.now = take_all _ _ c.loop-byte-test.false in
    subst (Checks c.args.bytes.now) (sym (c.loop-byte.invariant ∙ ap check_of all)) (checks c.args.bytes.now)

pub returns-clause-division : goal.returns-clause-division
returns-clause-division c = one_remainder
