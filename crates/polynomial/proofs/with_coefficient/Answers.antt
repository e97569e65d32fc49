-- The register of one coefficient at a time is the rule for one coefficient more.
use Rattle.std.proofs.Common.{sym, ◌∙◌}
use Rattle.polynomial.proofs.OneMore.{reduced_low, reduced_high, fed_one, bit_of}
use Rattle.polynomial.proofs.with_coefficient.Goals as goal

pub returns-then-doubled-lt4194304-clause-value : goal.returns-then-doubled-lt4194304-clause-value
returns-then-doubled-lt4194304-clause-value c =
    λ p e. sym (reduced_low _ c.if-doubled-lt4194304.true) ∙ fed_one p c.args.one c.args.r c.from.result (bit_of c.args.one c.from.result c.from.ensures) e

pub returns-else-doubled-lt4194304-clause-value : goal.returns-else-doubled-lt4194304-clause-value
returns-else-doubled-lt4194304-clause-value c =
    λ p e. sym (reduced_high _ c.if-doubled-lt4194304.false) ∙ fed_one p c.args.one c.args.r c.from.result (bit_of c.args.one c.from.result c.from.ensures) e
