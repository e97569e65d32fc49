-- What the marginals of a stage leave in the room that was lent.
use Rattle.std.specs.Prelude.{◌≡◌, ℕ, suc, ◌+◌, ◌*◌, ◌^◌, ◌<◌, ◌≤◌, List, length, Some, slice_index, slice_index_or}
use Rattle.std.specs.List.{slice_get}
use Rattle.paths.specs.declared.edges.Edge.{Edge}
use Rattle.paths.specs.Semirings.{Operations}
use Rattle.paths.specs.Joins.{Joins, candidate}
use Rattle.marginals.specs.declared.room.Room.{Room}
use Rattle.marginals.specs.Words.{word_below, neither}

-- between columns f and g of so many states, for words of so many bits: the costs of the edges, the frame of the columns, and in
-- the words the joins of what the edges offer whose lowest bits are so, as the folds leave them; nothing else changes. What is found
-- of each bit of the words is said by itself
pub record Leaves {W : Type 0} (o : Operations W) (states bits : ℕ) (es : List Edge) (f g : ℕ → W) (old new : Room W) : Type 0 where
  pub costs : (i : ℕ) (e : Edge) → slice_get es i ≡ Some e → slice_index new.costs i ≡ e.cost
  pub costs_rest : (i : ℕ) → length es ≤ i → slice_index new.costs i ≡ slice_index old.costs i
  pub frame : (s t : ℕ) → s < states → t < states → slice_index_or new.frame (s * states + t) o.none ≡ o.chain (f s) (g t)
  pub frame_rest : (p : ℕ) → states * states ≤ p → slice_index_or new.frame p o.none ≡ slice_index_or old.frame p o.none
  pub first_word : Joins o (candidate o f g es) (word_below es 0 0) (slice_index_or new.words 0 o.none)
  pub words : (b x : ℕ) → b < bits → 2 ^ b ≤ x → x < 2 ^ suc b → Joins o (candidate o f g es) (word_below es (suc b) x) (slice_index_or new.words x o.none)
  pub words_rest : (x : ℕ) → 2 ^ bits ≤ x → slice_index_or new.words x o.none ≡ slice_index_or old.words x o.none
  pub bits_rest : (b : ℕ) → bits ≤ b → slice_index_or new.bits b (neither o) ≡ slice_index_or old.bits b (neither o)
