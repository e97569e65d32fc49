-- The window of a column begins at its least entry.
use Rattle.std.proofs.Common.{ℕ, ◌+◌, ◌<◌, ◌≤◌, inl, inr, ⊎_elim, arith}
use Rattle.std.proofs.lemmas.Bool.{cases_lt}
use Rattle.paths.specs.Columns.{join_below}
use Rattle.paths.specs.Least.{least, top}
use Rattle.modulo.proofs.Below.{below_low, below_one}
use Rattle.modulo.proofs.Windows.{Within}

abbrev pub floor : ℕ → (ℕ → ℕ) → ℕ
floor states column = join_below least states column

pub in_window : (states d : ℕ) (column : ℕ → ℕ) → ((s : ℕ) → column s ≤ top)
    → ((s t : ℕ) → s < states → t < states → column s < top → column t < top → column s ≤ column t + d)
    → (s : ℕ) → s < states → Within (floor states column) d (column s)
in_window states d column held spread s low =
    let a = below_low states column s low in
    let b = held s in
    ⊎_elim
    (λ l.
    let q = below_one states column (omega arith) in
    let e = q.2 in
    let n = spread s q.0 low q.1 l (omega arith) in
    inr (l, a, omega arith))
    (λ l. inl (omega arith))
    (cases_lt (column s) top)
