-- The front of a table, written entry by entry.
use Rattle.std.proofs.Common.{◌≡◌, ℕ, ◌<◌, ◌≤◌, List, ◌++◌, map, length, take, drop, get_or, replicate, length-take, refl, sym, ap, ◌∙◌, arith}
use Rattle.std.specs.List.{range_with_len}
use Rattle.std.proofs.lemmas.List.{get_or-replicate, length-replicate}
use Rattle.std.proofs.lemmas.List.FromFn.{fill_by_all}
use Rattle.run_model.specs.Tables.{fronted, cleared}

-- a loop over the first m entries is over at i, and entry k is f k for each k below i; n is m as a clause writes it
pub written : {A : Type 0} (f : ℕ → A) (n m i : ℕ) (z : A) (new t : List A) → m ≡ n → n ≤ length t → length new ≡ length (take m t) → length (take m t) ≤ i → ((k : ℕ) → k < i → get_or new k z ≡ f k) → new ++ drop m t ≡ fronted n (map f (range_with_len 0 n)) t
written f n m i z new t e h l past each =
    let front : length (take m t) ≡ n = length-take m t ∙ omega arith in
    ap (λ k. new ++ drop k t) e
    ∙ ap (λ (front : List _). front ++ drop n t) (fill_by_all f new n z (l ∙ front) (λ k b. each k (omega arith)))

-- the same where every entry is z
pub written_same : {A : Type 0} (n i : ℕ) (z : A) (new t : List A) → n ≤ length t → length new ≡ length (take n t) → length (take n t) ≤ i → ((k : ℕ) → k < i → get_or new k z ≡ z) → new ++ drop n t ≡ cleared n z t
written_same n i z new t h l past each =
    let same = fill_by_all (λ k. z) (replicate n z) n z (length-replicate n z) (λ k b. get_or-replicate n k z z b) in
    written (λ k. z) n n i z new t refl h l past each ∙ ap (λ (front : List _). front ++ drop n t) (sym same)
