-- What a trellis is, and what every implementation shows of itself.
use Rattle.std.specs.Prelude.{◌≡◌, ℕ, zero, suc, ◌+◌, ◌-◌, ◌^◌, ◌<◌, ◌≤◌, Bool, true, cond, List, [], ◌∷◌, map, length, Some, None, Option, nat_lt}
use Rattle.std.specs.List.{slice_get}
use Rattle.paths.specs.declared.edges.Edge.{Edge}

-- stages, the edges of each stage in their order, and whether a path may begin or end in a state
pub record Meaning : Type 0 where
  pub stages : ℕ
  pub edges : ℕ → List Edge
  pub first : ℕ → Bool
  pub last : ℕ → Bool

-- the answers to the questions about edges: none beyond the end
abbrev pub count_at : Meaning → ℕ → Option ℕ
count_at m k = cond (nat_lt k m.stages) (Some (length (m.edges k))) None

abbrev pub edge_at : Meaning → ℕ → ℕ → Option Edge
edge_at m k i = cond (nat_lt k m.stages) (slice_get (m.edges k) i) None

abbrev pub Each : {A : Type 0} → (A → Type 0) → List A → Type 0
Each P [] = Unit {0}
Each P (x ∷ xs) = P x × Each P xs

pub record LawfulEdge (states ceiling bits : ℕ) (e : Edge) : Type 0 where
  pub from_low : e.from < states
  pub to_low : e.to < states
  pub word_low : e.word < 2 ^ bits
  pub cheap : e.cost ≤ ceiling

-- sizes within their limits, and no state, word or cost out of range
pub record Lawful (states ceiling bits : ℕ) (m : Meaning) : Type 0 where
  pub some_states : 1 ≤ states
  pub few_states : states ≤ 16
  pub few_bits : bits ≤ 8
  pub some_stages : 1 ≤ m.stages
  pub few_stages : m.stages ≤ 16384
  pub some_edges : (k : ℕ) → k < m.stages → 1 ≤ length (m.edges k)
  pub few_edges : (k : ℕ) → k < m.stages → length (m.edges k) ≤ 512
  pub every : (k : ℕ) → k < m.stages → Each (LawfulEdge states ceiling bits) (m.edges k)
  pub first_low : (s : ℕ) → m.first s ≡ true → s < states
  pub last_low : (s : ℕ) → m.last s ≡ true → s < states

-- e is one of these edges
abbrev pub Has : List Edge → Edge → Type 0
Has es e = (i : ℕ) × (slice_get es i ≡ Some e)

-- n stages from stage k on lead from s to t
abbrev pub Linked : Meaning → ℕ → ℕ → ℕ → ℕ → Type 0
Linked m zero k s t = s ≡ t
Linked m (suc n) k s t = (e : Edge) × (Has (m.edges k) e) × (e.from ≡ s) × Linked m n (suc k) e.to t

-- where the reach is not 0, every state is reached from every state in exactly so many stages
abbrev pub Reaches : ℕ → ℕ → Meaning → Type 0
Reaches states reach m = (k s t : ℕ) → 1 ≤ reach → k + reach ≤ m.stages → s < states → t < states → Linked m reach k s t

-- the reversal: stages backwards, each stage's edges in their old order with from and to exchanged, first and last exchanged
abbrev pub flipped : Edge → Edge
flipped e = record { from = e.to; to = e.from; word = e.word; cost = e.cost }

abbrev pub reversed : Meaning → Meaning
reversed m = record { stages = m.stages; edges = λ k. map flipped (m.edges (m.stages - 1 - k)); first = m.last; last = m.first }
