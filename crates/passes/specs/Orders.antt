-- The orders in which neighbouring stages are made one: boundary j lies between stage j - 1 and stage j.
use Rattle.std.specs.Prelude.{Option, Some, None, ℕ, zero, suc, ◌+◌, ◌-◌, Bool, true, false, not, ◌&&◌, ◌||◌, List, [], ◌∷◌, ◌++◌, length, cond, nat_eq, ◌==◌, nat_lt, slice_index_or, slice_set}
use Rattle.passes.specs.declared.orders.Span.{Span}

-- every entry is a boundary of n stages
unfoldable pub within : ℕ → List ℕ → Bool
within n [] = true
within n (x ∷ xs) = (nat_lt 0 x && nat_lt x n) && within n xs

unfoldable pub stands_in : ℕ → List ℕ → Bool
stands_in x [] = false
stands_in x (y ∷ ys) = x == y || stands_in x ys

unfoldable pub none_twice : List ℕ → Bool
none_twice [] = true
none_twice (x ∷ xs) = not (stands_in x xs) && none_twice xs

-- each boundary of n stages stands once in it, and nothing else does
abbrev pub complete_order : ℕ → List ℕ → Bool
complete_order n order = length order == n - 1 && (within n order && none_twice order)

-- what is remembered of blocks of neighbours made one: with a block's first stage where it ends, with any other stage 0;
-- and with a block's last stage where it begins
abbrev pub span_at : List Span → ℕ → Span
span_at s a = slice_index_or s a (record { end = 0; begin = 0 })

abbrev pub ends_at : List Span → ℕ → ℕ
ends_at s a = (span_at s a).end

abbrev pub begins_before : List Span → ℕ → ℕ
begins_before s j = (span_at s (j - 1)).begin

-- j is a boundary, and blocks end and begin there
abbrev pub is_open : ℕ → List Span → ℕ → Bool
is_open n s j = nat_lt 0 j && (nat_lt j n && nat_lt 0 (ends_at s j))

abbrev pub with_end : List Span → ℕ → ℕ → List Span
with_end s a end = slice_set s a (record (span_at s a) { end = end })

abbrev pub with_begin : List Span → ℕ → ℕ → List Span
with_begin s a begin = slice_set s a (record (span_at s a) { begin = begin })

-- the blocks on both sides of boundary j made one
abbrev pub made_one : List Span → ℕ → List Span
made_one s j = with_end (with_begin (with_end s (begins_before s j) (ends_at s j)) (ends_at s j - 1) (begins_before s j)) j 0

-- n stages, each a block of its own
unfoldable pub single_spans : ℕ → List Span
single_spans zero = []
single_spans (suc n) = single_spans n ++ (record { end = n + 1; begin = n } ∷ [])

-- the boundaries of an order closed one after another, up to the first that is not open
unfoldable pub followed : ℕ → List Span → List ℕ → List Span
followed n e [] = e
followed n e (j ∷ js) = cond (is_open n e j) (followed n (made_one e j) js) e

-- where the block that was made last in the place of stage a ends, where r says it at first
unfoldable pub ends_made : ℕ → List Span → (ℕ → ℕ) → List ℕ → ℕ → ℕ
ends_made n e r [] a = r a
ends_made n e r (j ∷ js) a = cond (is_open n e j) (ends_made n (made_one e j) (λ b. cond (nat_eq b (begins_before e j)) (ends_at e j) (r b)) js a) (r a)

-- the stage in whose place a block was made last, or x where none was
unfoldable pub made_last : ℕ → List Span → Option ℕ → List ℕ → Option ℕ
made_last n e x [] = x
made_last n e x (j ∷ js) = cond (is_open n e j) (made_last n (made_one e j) (Some (begins_before e j)) js) x

-- these after an order of n stages
abbrev pub spans_after : ℕ → List ℕ → List Span
spans_after n order = followed n (single_spans n) order

abbrev pub ends_after : ℕ → List ℕ → ℕ → ℕ
ends_after n order a = ends_made n (single_spans n) (λ b. b + 1) order a

abbrev pub last_after : ℕ → List ℕ → Option ℕ
last_after n order = made_last n (single_spans n) None order
