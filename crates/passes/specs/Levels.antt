-- The levels of metastages in a table: each level's neighbours in pairs, a last odd one again, until one is left.
use Rattle.std.specs.Prelude.{◌≡◌, ℕ, ◌+◌, ◌*◌, ◌<◌, ◌≤◌, List, slice_index_or}
use Rattle.paths.specs.Semirings.{Operations}
use Rattle.paths.specs.Trellises.{Meaning}
use Rattle.paths.specs.Paths.{across, path_join}
use Rattle.paths.specs.Metastages.{level_size, metastage_at, covers_from}

-- the first `many` metastages of level l stand: entry s, t joins the walks from s to t across the stages that the metastage covers
abbrev pub Level : {W : Type 0} → Operations W → ℕ → Meaning → ℕ → ℕ → ℕ → List W → Type 0
Level o states m base l many tb = (j s t : ℕ) → j < many → s < states → t < states
    → slice_index_or tb (metastage_at base states m.stages l j + (s * states + t)) o.none ≡ path_join o (across m (covers_from m.stages l j) (covers_from m.stages l (j + 1)) s t)

-- all levels up to l stand
abbrev pub Levels : {W : Type 0} → Operations W → ℕ → Meaning → ℕ → ℕ → List W → Type 0
Levels o states m base l tb = (i : ℕ) → i ≤ l → Level o states m base i (level_size m.stages i) tb

-- room for all levels of n stages, of which there are at most 16,384
abbrev pub levels_room : ℕ → ℕ → ℕ
levels_room states n = (2 * n + 14) * (states * states)
