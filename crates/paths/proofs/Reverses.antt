-- The reversal of a lawful trellis is lawful, and reaches as far.
use Rattle.std.proofs.Common.{◌≡◌, ℕ, zero, suc, ◌+◌, ◌-◌, ◌<◌, cond, List, [], ◌∷◌, map, length, Some, None, Option, sym, refl, ap, ◌∙◌, subst, add-zero, add-suc, suc-add, arith}
use Rattle.std.proofs.lemmas.List.{length-map}
use Rattle.std.proofs.lemmas.Bool.{lt-ltb}
use Rattle.std.specs.List.{slice_get}
use Rattle.std.specs.Option.{option_map}
use Rattle.paths.specs.declared.edges.Edge.{Edge}
use Rattle.paths.specs.Trellises.{Meaning, count_at, edge_at, Lawful, LawfulEdge, Has, Linked, Reaches, flipped, reversed}
use Rattle.paths.proofs.Inside.{each_map}

-- the stage that stage k of the reversal is
turned_low : (n k : ℕ) → k < n → n - 1 - k < n
turned_low n k h = omega arith

pub reversed_lawful : {states ceiling bits : ℕ} {m : Meaning} → Lawful states ceiling bits m → Lawful states ceiling bits (reversed m)
reversed_lawful {states} {ceiling} {bits} {m} law = record {
  some_states = law.some_states;
  few_states = law.few_states;
  few_bits = law.few_bits;
  some_stages = law.some_stages;
  few_stages = law.few_stages;
  some_edges = λ k h. let j = m.stages - 1 - k in let n = length-map (m.edges j) flipped in let s = law.some_edges j (turned_low m.stages k h) in omega arith;
  few_edges = λ k h. let j = m.stages - 1 - k in let n = length-map (m.edges j) flipped in let s = law.few_edges j (turned_low m.stages k h) in omega arith;
  every = λ k h.
      each_map (LawfulEdge states ceiling bits) (LawfulEdge states ceiling bits) flipped (λ e l. record { from_low = l.to_low; to_low = l.from_low; word_low = l.word_low; cheap = l.cheap })
      (m.edges (m.stages - 1 - k)) (law.every (m.stages - 1 - k) (turned_low m.stages k h));
  first_low = law.last_low;
  last_low = law.first_low;
}

pub nth_map : {A B : Type 0} (f : A → B) (xs : List A) (i : ℕ) → slice_get (map f xs) i ≡ option_map f (slice_get xs i)
nth_map f [] i = refl
nth_map f (x ∷ xs) zero = refl
nth_map f (x ∷ xs) (suc i) = nth_map f xs i

-- what the reversal answers
pub reversed_count_at : (m : Meaning) (k : ℕ) → k < m.stages → count_at (reversed m) k ≡ count_at m (m.stages - 1 - k)
reversed_count_at m k h =
    let j = m.stages - 1 - k in
    ap (λ b. cond b (Some (length (map flipped (m.edges j)))) None) (lt-ltb k m.stages h)
    ∙ ap Some (length-map (m.edges j) flipped)
    ∙ sym (ap (λ b. cond b (Some (length (m.edges j))) None) (lt-ltb j m.stages (turned_low m.stages k h)))

pub reversed_edge_at : (m : Meaning) (k i : ℕ) → k < m.stages → edge_at (reversed m) k i ≡ option_map flipped (edge_at m (m.stages - 1 - k) i)
reversed_edge_at m k i h =
    let j = m.stages - 1 - k in
    ap (λ b. cond b (slice_get (map flipped (m.edges j)) i) None) (lt-ltb k m.stages h)
    ∙ nth_map flipped (m.edges j) i
    ∙ sym (ap (λ b. option_map flipped (cond b (slice_get (m.edges j) i) None)) (lt-ltb j m.stages (turned_low m.stages k h)))

unflipped : (x : Option Edge) (e : Edge) → option_map flipped x ≡ Some e → x ≡ Some (flipped e)
unflipped None e h = absurd (let z : ◌≡◌ {A = ℕ} 0 1 = cc in omega arith)
unflipped (Some x) e h = let q : flipped x ≡ e = cc in ap (λ y. Some (flipped y)) q

-- an edge of the reversal, turned, is one of the trellis
pub reversed_edge_from : (m : Meaning) (k i : ℕ) (e : Edge) → k < m.stages → edge_at (reversed m) k i ≡ Some e → edge_at m (m.stages - 1 - k) i ≡ Some (flipped e)
reversed_edge_from m k i e h is = unflipped (edge_at m (m.stages - 1 - k) i) e (sym (reversed_edge_at m k i h) ∙ is)

link_more : (m : Meaning) (n k s : ℕ) (e : Edge) → Linked m n k s e.from → Has (m.edges (k + n)) e → Linked m (suc n) k s e.to
link_more m zero k s e l h = (e, subst (λ j. Has (m.edges j) e) (add-zero k) h, sym l, refl)
link_more m (suc n) k s e l h =
    (l.0, l.1, l.2, link_more m n (suc k) l.0.to e l.3 (subst (λ j. Has (m.edges j) e) (add-suc k n ∙ sym (suc-add k n)) h))

has_flipped : (m : Meaning) (j k : ℕ) (e : Edge) → j + k + 1 ≡ m.stages → Has (m.edges j) e → Has ((reversed m).edges k) (flipped e)
has_flipped m j k e h has =
    let back : m.stages - 1 - k ≡ j = omega arith in
    let i = has.0 in
    (i, nth_map flipped (m.edges (m.stages - 1 - k)) i ∙ ap (λ j. option_map flipped (slice_get (m.edges j) i)) back ∙ ap (option_map flipped) has.1)

turned : (m : Meaning) (n j k s t : ℕ) → j + n + k ≡ m.stages → Linked m n j s t → Linked (reversed m) n k t s
turned m zero j k s t h l = sym l
turned m (suc n) j k s t h l =
    let e = l.0 in
    let rest : Linked (reversed m) n k t e.to = turned m n (suc j) k e.to t (omega arith) l.3 in
    let more = link_more (reversed m) n k t (flipped e) rest (has_flipped m j (k + n) e (omega arith) l.1) in
    subst (λ v. Linked (reversed m) (suc n) k t v) l.2 more

pub reversed_reaches : (states reach : ℕ) (m : Meaning) → Reaches states reach m → Reaches states reach (reversed m)
reversed_reaches states reach m h k s t some within small little =
    turned m reach (m.stages - (k + reach)) k t s (omega arith) (h (m.stages - (k + reach)) t s some (omega arith) little small)
