-- What the loop keeps: the check of the bytes before the one that is read next.
use Rattle.std.proofs.Common.{◌≡◌, take}
use Rattle.polynomial.specs.Bytes.{check_of}
use Rattle.polynomial.proofs.check.Given as goal

abbrev pub invariant-loop-byte : goal.invariant-loop-byte
invariant-loop-byte l = l.r ≡ check_of (take l.byte-index l.bytes)
