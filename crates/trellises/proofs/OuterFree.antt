-- No coded bit of the outer trellis is forced, and no data bit before the last two.
use Rattle.std.proofs.Common.{◌≡◌, ℕ, zero, suc, ◌+◌, ◌-◌, ◌<◌, ◌≤◌, true, List, ℤ, sym, refl, ◌∙◌, subst, ⊎_elim, add-zero, add-suc, suc-add, arith}
use Rattle.std.proofs.lemmas.Bool.{cases_lt}
use Rattle.paths.specs.declared.edges.Edge.{Edge}
use Rattle.paths.specs.Trellises.{Meaning, Has, Linked}
use Rattle.paths.specs.Paths.{bit_is}
use Rattle.trellises.specs.Counts.{nth_counted}
use Rattle.trellises.specs.Outer.{outer, outer_at}
use Rattle.trellises.specs.OuterLaws.{outer_lawful}
use Rattle.trellises.specs.Forced.{CodedBitsFree, DataBitsFree}
use Rattle.trellises.proofs.Taken.{Taken, taken_cheap}

link_more : (m : Meaning) (n k s : ℕ) (e : Edge) → Linked m n k s e.from → Has (m.edges (k + n)) e → Linked m (suc n) k s e.to
link_more m zero k s e l h = (e, subst (λ j. Has (m.edges j) e) (add-zero k) h, sym l, refl)
link_more m (suc n) k s e l h =
    (l.0, l.1, l.2, link_more m n (suc k) l.0.to e l.3 (subst (λ j. Has (m.edges j) e) (add-suc k n ∙ sym (suc-add k n)) h))

module _ (n : ℕ) (priors : List ℤ) where
  at : (k i : ℕ) → i < 8 → Has ((outer n priors).edges k) (outer_at priors k i)
  at k i h = (i, nth_counted (outer_at priors k) 8 i h)

  -- zeros stay in state 0
  rests : (d k : ℕ) → Linked (outer n priors) d k 0 0
  rests zero k = refl
  rests (suc d) k = (outer_at priors k 0, at k 0 (omega arith), refl, rests d (suc k))

  -- after a one, two zeros lead home
  falls : (d k : ℕ) → Linked (outer n priors) (suc (suc d)) k 1 0
  falls d k = (outer_at priors k 2, at k 2 (omega arith), refl, (outer_at priors (suc k) 4, at (suc k) 4 (omega arith), refl, rests d (suc (suc k))))

  -- a one two stages before
  rises : (p : ℕ) → Linked (outer n priors) (suc (suc p)) 0 0 2
  rises p =
      link_more (outer n priors) (suc p) 0 0 (outer_at priors (0 + suc p) 2)
      (link_more (outer n priors) p 0 0 (outer_at priors (0 + p) 1) (rests p 0) (at (0 + p) 1 (omega arith))) (at (0 + suc p) 2 (omega arith))

  -- the path of zeros
  zeros : (k b : ℕ) → bit_is b 0 (outer_at priors k 0) ≡ true → Taken (outer n priors) k (bit_is b 0)
  zeros k b is = record {
    start = 0;
    end = 0;
    edge = outer_at priors k 0;
    starts = refl;
    ends = refl;
    before = rests k 0;
    here = at k 0 (omega arith);
    after = rests (n - suc k) (suc k);
    passes = is;
  }

  -- the path whose only one is data bit k
  one_here : (k b : ℕ) → k + 2 < n → bit_is b 1 (outer_at priors k 1) ≡ true → Taken (outer n priors) k (bit_is b 1)
  one_here k b low is =
      let e : suc (suc (n - suc k - 2)) ≡ n - suc k = omega arith in
      record {
        start = 0;
        end = 0;
        edge = outer_at priors k 1;
        starts = refl;
        ends = refl;
        before = rests k 0;
        here = at k 1 (omega arith);
        after = subst (λ d. Linked (outer n priors) d (suc k) 1 0) e (falls (n - suc k - 2) (suc k));
        passes = is;
      }

  -- the path whose only one is data bit k - 2
  one_before : (k b : ℕ) → 2 ≤ k → bit_is b 1 (outer_at priors k 4) ≡ true → Taken (outer n priors) k (bit_is b 1)
  one_before k b some is =
      let e : suc (suc (k - 2)) ≡ k = omega arith in
      record {
        start = 0;
        end = 0;
        edge = outer_at priors k 4;
        starts = refl;
        ends = refl;
        before = subst (λ d. Linked (outer n priors) d 0 0 2) e (rises (k - 2));
        here = at k 4 (omega arith);
        after = rests (n - suc k) (suc k);
        passes = is;
      }

  coded : (k b v : ℕ) → 4 ≤ n → k < n → b < 2 → v < 2 → Taken (outer n priors) k (bit_is b v)
  coded k zero zero some low b_low v_low = zeros k 0 refl
  coded k (suc zero) zero some low b_low v_low = zeros k 1 refl
  coded k zero (suc zero) some low b_low v_low = ⊎_elim (λ (l : k + 2 < n). one_here k 0 l refl) (λ (l : n ≤ k + 2). one_before k 0 (omega arith) refl) (cases_lt (k + 2) n)
  coded k (suc zero) (suc zero) some low b_low v_low = ⊎_elim (λ (l : k + 2 < n). one_here k 1 l refl) (λ (l : n ≤ k + 2). one_before k 1 (omega arith) refl) (cases_lt (k + 2) n)
  coded k (suc (suc b)) v some low b_low v_low = absurd (omega arith)
  coded k zero (suc (suc v)) some low b_low v_low = absurd (omega arith)
  coded k (suc zero) (suc (suc v)) some low b_low v_low = absurd (omega arith)

  fed : (k v : ℕ) → k + 2 < n → v < 2 → Taken (outer n priors) k (bit_is 2 v)
  fed k zero low v_low = zeros k 2 refl
  fed k (suc zero) low v_low = one_here k 2 low refl
  fed k (suc (suc v)) low v_low = absurd (omega arith)

pub coded_free : CodedBitsFree
coded_free n priors some few k b v low b_low v_low =
    taken_cheap (outer_lawful n priors (omega arith, few)) (bit_is b v) k low (omega arith) (coded n priors k b v some low b_low v_low)

pub data_free : DataBitsFree
data_free n priors few k v low v_low = taken_cheap (outer_lawful n priors (omega arith, few)) (bit_is 2 v) k (omega arith) (omega arith) (fed n priors k v low v_low)
