use Rattle.std.proofs.Common.{◌≡◌, ℕ, suc, ◌+◌, ◌*◌, ◌%◌, ◌<◌, ◌≤◌, get_or}
use Rattle.paths.specs.Columns.{forward}
use Rattle.passes.proofs.totals.total.Given as goal

abbrev pub invariant-loop-k : goal.invariant-loop-k
invariant-loop-k g l =
    let o = g.W.Weights.ops in
    let w = g.T.Trellis.states in
    let m = g.T.Trellis.meaning l.t in
    record {
      here : l.before ≡ l.k % 2 * w;
      there : l.after ≡ (l.k + 1) % 2 * w;
      last : (s : ℕ) → s < w → get_or l.columns (l.k % 2 * w + s) o.none ≡ forward o w m l.k s;
      before : (k s : ℕ) → suc k ≡ l.k → s < w → get_or l.columns ((l.k + 1) % 2 * w + s) o.none ≡ forward o w m k s;
      rest : (p : ℕ) → w + w ≤ p → get_or l.columns p o.none ≡ get_or l.fn.columns p o.none;
    }
