-- A choice passes the test of a walk exactly where its edges chain.
use Rattle.std.proofs.Common.{◌≡◌, ℕ, zero, suc, ◌+◌, ◌<◌, Bool, true, false, cond, eqb, List, [], ◌∷◌, length, get_or, Some, sym, refl, ap, ◌∙◌, add-zero, add-suc, suc-add, arith}
use Rattle.std.specs.List.{slice_get}
use Rattle.std.proofs.lemmas.Bool.{eq-eqb, eqb-true, both_ways}
use Rattle.paths.specs.declared.edges.Edge.{Edge}
use Rattle.paths.proofs.Occurrences.{at, test}

at_some : (es : List Edge) (i : ℕ) (e : Edge) (f : Edge → Bool) → slice_get es i ≡ Some e → at es i f ≡ f e
at_some [] i e f h = absurd (let z : ◌≡◌ {A = ℕ} 0 1 = cc in omega arith)
at_some (x ∷ es) zero e f h = let q : x ≡ e = cc in ap f q
at_some (x ∷ es) (suc i) e f h = at_some es i e f h

at_true : (es : List Edge) (i : ℕ) (f : Edge → Bool) → at es i f ≡ true → (e : Edge) × (slice_get es i ≡ Some e) × (f e ≡ true)
at_true [] i f h = absurd (both_ways false refl h)
at_true (x ∷ es) zero f h = (x, refl, h)
at_true (x ∷ es) (suc i) f h = at_true es i f h

-- where n edges from s lead
abbrev pub reached : ℕ → ℕ → (ℕ → Edge) → ℕ
reached zero s edge = s
reached (suc n) s edge = (edge n).to

-- the edges that c names, from stage k on: the first starts in s, each where the one before ended, and the last ends where it may stop
pub record Run (g : ℕ → List Edge) (stop : ℕ → Bool) (k n s : ℕ) (c : List ℕ) (edge : ℕ → Edge) : Type 0 where
  pub long : length c ≡ n
  pub named : (j : ℕ) → j < n → slice_get (g (k + j)) (get_or c j 0) ≡ Some (edge j)
  pub starts : 0 < n → (edge 0).from ≡ s
  pub chains : (j : ℕ) → suc j < n → (edge j).to ≡ (edge (suc j)).from
  pub ends : stop (reached n s edge) ≡ true

reached_more : (n s : ℕ) (edge : ℕ → Edge) → reached n (edge 0).to (λ j. edge (suc j)) ≡ reached (suc n) s edge
reached_more zero s edge = refl
reached_more (suc n) s edge = refl

pub run_test : (g : ℕ → List Edge) (stop : ℕ → Bool) (k n s : ℕ) (c : List ℕ) (edge : ℕ → Edge) → Run g stop k n s c edge → test g stop k n s c ≡ true
run_test g stop k zero s [] edge r = r.ends
run_test g stop k zero s (i ∷ c) edge r = absurd (omega (arith, r.long))
run_test g stop k (suc n) s [] edge r = absurd (omega (arith, r.long))
run_test g stop k (suc n) s (i ∷ c) edge r =
    let e = edge 0 in
    let there : slice_get (g k) i ≡ Some e = ap (λ j. slice_get (g j) i) (sym (add-zero k)) ∙ r.named 0 (omega arith) in
    let rest : Run g stop (suc k) n e.to c (λ j. edge (suc j)) = record {
      long = omega (arith, r.long);
      named = λ j l. ap (λ x. slice_get (g x) (get_or c j 0)) (suc-add k j ∙ sym (add-suc k j)) ∙ r.named (suc j) (omega arith);
      starts = λ l. sym (r.chains 0 (omega arith));
      chains = λ j l. r.chains (suc j) (omega arith);
      ends = ap stop (reached_more n s edge) ∙ r.ends;
    } in
    at_some (g k) i e (λ e. cond (eqb e.from s) (test g stop (suc k) n e.to c) false) there
    ∙ ap (λ b. cond b (test g stop (suc k) n e.to c) false) (eq-eqb e.from s (r.starts (omega arith)))
    ∙ run_test g stop (suc k) n e.to c (λ j. edge (suc j)) rest

abbrev put_first : Edge → (ℕ → Edge) → ℕ → Edge
put_first e edge zero = e
put_first e edge (suc j) = edge j

pub both_true : (a b : Bool) → cond a b false ≡ true → (a ≡ true) × (b ≡ true)
both_true true b h = (refl, h)
both_true false b h = absurd (both_ways false refl h)

pub test_run : (g : ℕ → List Edge) (stop : ℕ → Bool) (k n s : ℕ) (c : List ℕ) → test g stop k n s c ≡ true → (edge : ℕ → Edge) × Run g stop k n s c edge
test_run g stop k zero s [] h =
    ((λ j. record { from = 0; to = 0; word = 0; cost = 0 }), record { long = refl; named = λ j l. absurd (omega arith); starts = λ l. absurd (omega arith); chains = λ j l. absurd (omega arith); ends = h })
test_run g stop k zero s (i ∷ c) h = absurd (both_ways false refl h)
test_run g stop k (suc n) s [] h = absurd (both_ways false refl h)
test_run g stop k (suc n) s (i ∷ c) h =
    let a = at_true (g k) i (λ e. cond (eqb e.from s) (test g stop (suc k) n e.to c) false) h in
    let e = a.0 in
    let b = both_true (eqb e.from s) (test g stop (suc k) n e.to c) a.2 in
    let more = test_run g stop (suc k) n e.to c b.1 in
    let r = more.1 in (
      put_first e more.0,
      record {
        long = ap suc r.long;
        named = elim [ zero ↦ λ l. ap (λ x. slice_get (g x) i) (add-zero k) ∙ a.1 | suc j ↦ λ l. ap (λ x. slice_get (g x) (get_or c j 0)) (add-suc k j ∙ sym (suc-add k j)) ∙ r.named j (omega arith) ];
        starts = λ l. eqb-true e.from s b.0;
        chains = elim [ zero ↦ λ l. sym (r.starts (omega arith)) | suc j ↦ λ l. r.chains j (omega arith) ];
        ends = ap stop (sym (reached_more n s (put_first e more.0))) ∙ r.ends;
      },
    )
