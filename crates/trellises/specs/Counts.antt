-- Lists made from a function of the index.
use Rattle.std.specs.Prelude.{◌≡◌, ℕ, zero, suc, ◌+◌, ◌<◌, ◌≤◌, map, Some, None}
use Rattle.std.proofs.Common.{ap, ◌∙◌, arith}
use Rattle.std.specs.List.{range_with_len, slice_get}
use Rattle.std.proofs.lemmas.List.FromFn.{length-map-range_with_len, get_or-map-range_with_len}
use Rattle.std.proofs.lemmas.Option.{slice_get-get_or, slice_get_past}
use Rattle.paths.specs.Trellises.{Each}

pub each_counted : {A : Type 0} (P : A → Type 0) (f : ℕ → A) (a n : ℕ) → ((i : ℕ) → i < a + n → P (f i)) → Each P (map f (range_with_len a n))
each_counted P f a zero h = tt
each_counted P f a (suc n) h = (h a (omega arith), each_counted P f (a + 1) n (λ i b. h i (omega arith)))

pub nth_counted : {A : Type 0} (f : ℕ → A) (n i : ℕ) → i < n → slice_get (map f (range_with_len 0 n)) i ≡ Some (f i)
nth_counted f n i h =
    let l = length-map-range_with_len f 0 n in
    slice_get-get_or (map f (range_with_len 0 n)) i (f 0) (omega arith) ∙ ap Some (get_or-map-range_with_len f 0 n i i (f 0) h (omega arith))

pub nth_counted_past : {A : Type 0} (f : ℕ → A) (n i : ℕ) → n ≤ i → slice_get (map f (range_with_len 0 n)) i ≡ None
nth_counted_past f n i h = let l = length-map-range_with_len f 0 n in slice_get_past (map f (range_with_len 0 n)) i (omega arith)
