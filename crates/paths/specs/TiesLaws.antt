-- The least cost with a count of its ties is a semiring: a capped product spreads over a capped sum.
use Rattle.std.specs.Prelude.{◌≡◌, ℕ, ◌+◌, ◌*◌, ◌<◌, ◌≤◌, min, true, false, nat_lt, refl}
use Rattle.std.proofs.Common.{sym, ap, ◌∙◌, ⊎_elim, mul_comm, mul_assoc, mul-add, mul-le-mul_right, mul-le-mul, one-mul, mul-one, zero-mul, arith, lt-ltb, le-ltb}
use Rattle.std.proofs.lemmas.Bool.{cases_lt, cases_eq}
use Rattle.std.proofs.lemmas.Bool.Decides.{nat_tests}
use Rattle.paths.specs.Least.{top}
use Rattle.paths.specs.Ties.{tied, joined_count, chained_count, least_with_ties, FineCount, FineTied}
use Rattle.paths.specs.Semirings.{Semiring}

-- two of one cost and one count
both : (a b m n : ℕ) → a ≡ b → m ≡ n → tied a m ≡ tied b n
both a b m n p q = cc

joined_low : (a m b n : ℕ) → FineCount a m → FineCount b n → FineCount (min a b) (joined_count a m b n)
joined_low a m b n h k = record {
  cost_low = omega arith;
  count_low = grind (arith, nat_tests);
  none_at_top = λ e. grind (arith, nat_tests);
  some_below = λ e. grind (arith, nat_tests);
}

joined_assoc : (a m b n c k : ℕ) → joined_count (min a b) (joined_count a m b n) c k ≡ joined_count a m (min b c) (joined_count b n c k)
joined_assoc a m b n c k = grind (arith, nat_tests)

joined_comm : (a m b n : ℕ) → joined_count a m b n ≡ joined_count b n a m
joined_comm a m b n = grind (arith, nat_tests)

joined_none : (a m : ℕ) → FineCount a m → joined_count a m top 0 ≡ m
joined_none a m h = grind (arith, nat_tests)

-- a product of what was capped, capped, is the capped product
cap_low : (k x : ℕ) → x < 255 → min (k * min x 255) 255 ≡ min (k * x) 255
cap_low k x low = let e : min x 255 ≡ x = omega arith in ap (λ y. min (k * y) 255) e

cap_high : (k x : ℕ) → 1 ≤ k → 255 ≤ x → min (k * min x 255) 255 ≡ min (k * x) 255
cap_high k x some high =
    let e : min x 255 ≡ 255 = omega arith in
    let one : 1 * x ≤ k * x = mul-le-mul_right x some in
    let same : 1 * x ≡ x = one-mul x in
    ap (λ y. min (k * y) 255) e ∙ omega arith

cap_none : (k x : ℕ) → k ≡ 0 → min (k * min x 255) 255 ≡ min (k * x) 255
cap_none k x none =
    ap (λ j. min (j * min x 255) 255) none ∙ ap (λ a. min a 255) (zero-mul (min x 255) ∙ sym (zero-mul x)) ∙ ap (λ j. min (j * x) 255) (sym none)

cap_mul : (k x : ℕ) → min (k * min x 255) 255 ≡ min (k * x) 255
cap_mul k x = ⊎_elim (cap_none k x) (λ some. ⊎_elim (cap_low k x) (cap_high k x (omega arith)) (cases_lt x 255)) (cases_eq k 0)

mul_cap : (x k : ℕ) → min (min x 255 * k) 255 ≡ min (x * k) 255
mul_cap x k = ap (λ n. min n 255) (mul_comm (min x 255) k) ∙ cap_mul k x ∙ ap (λ n. min n 255) (mul_comm k x)

chained_low : (a m b n : ℕ) → FineCount a m → FineCount b n → FineCount (min (a + b) top) (chained_count a m b n)
chained_low a m b n h k = record {
  cost_low = omega arith;
  count_low = grind (arith, nat_tests);
  none_at_top = λ e. grind (arith, nat_tests);
  some_below = λ e.
      let one : 1 ≤ m * n = mul-le-mul {n₁ = 1} {m₁ = 1} (h.some_below (omega arith)) (k.some_below (omega arith)) in
      grind (arith, nat_tests);
}

chained_assoc : (a m b n c k : ℕ) → chained_count (min (a + b) top) (chained_count a m b n) c k ≡ chained_count a m (min (b + c) top) (chained_count b n c k)
chained_assoc a m b n c k =
    ⊎_elim
    (λ lt.
    let t1 : nat_lt (a + b) top ≡ true = lt-ltb (a + b) top (omega arith) in
    let t2 : nat_lt (min (a + b) top + c) top ≡ true = lt-ltb (min (a + b) top + c) top (omega arith) in
    let t3 : nat_lt (b + c) top ≡ true = lt-ltb (b + c) top (omega arith) in
    let t4 : nat_lt (a + min (b + c) top) top ≡ true = lt-ltb (a + min (b + c) top) top (omega arith) in
    rw (t1, t2, t3, t4) (mul_cap (m * n) k ∙ ap (λ x. min x 255) (mul_assoc m n k) ∙ sym (cap_mul m (n * k))))
    (λ ge.
    let t2 : nat_lt (min (a + b) top + c) top ≡ false = le-ltb (min (a + b) top + c) top (omega arith) in
    let t4 : nat_lt (a + min (b + c) top) top ≡ false = le-ltb (a + min (b + c) top) top (omega arith) in
    rw (t2, t4))
    (cases_lt (a + b + c) top)

chained_comm : (a m b n : ℕ) → chained_count a m b n ≡ chained_count b n a m
chained_comm a m b n = let e = mul_comm m n in grind (arith, nat_tests)

chained_unit : (a m : ℕ) → FineCount a m → chained_count a m 0 1 ≡ m
chained_unit a m h = let e = mul-one m in grind (arith, nat_tests)

-- capped products spread over a capped sum
spread : (m n k : ℕ) → min (m * min (n + k) 255) 255 ≡ min (min (m * n) 255 + min (m * k) 255) 255
spread m n k = cap_mul m (n + k) ∙ ap (λ x. min x 255) (mul-add m n k) ∙ omega arith

chained_joined : (a m b n c k : ℕ) → chained_count a m (min b c) (joined_count b n c k) ≡ joined_count (min (a + b) top) (chained_count a m b n) (min (a + c) top) (chained_count a m c k)
chained_joined a m b n c k = let e = spread m n k in grind (arith, nat_tests)

pub ties_laws : Semiring FineTied least_with_ties
ties_laws = record {
  none_fine = record { cost_low = omega arith; count_low = omega arith; none_at_top = λ _. refl; some_below = λ e. absurd (omega arith) };
  unit_fine = record { cost_low = omega arith; count_low = omega arith; none_at_top = λ e. absurd (omega arith); some_below = λ e. omega arith };
  value_fine = λ c. record { cost_low = omega arith; count_low = grind (arith, nat_tests); none_at_top = λ e. grind (arith, nat_tests); some_below = λ e. grind (arith, nat_tests) };
  join_fine = λ x y h k. joined_low x.cost x.count y.cost y.count h k;
  chain_fine = λ x y h k. chained_low x.cost x.count y.cost y.count h k;
  join_assoc = λ x y z h k l. both _ _ _ _ (omega arith) (joined_assoc x.cost x.count y.cost y.count z.cost z.count);
  join_comm = λ x y h k. both _ _ _ _ (omega arith) (joined_comm x.cost x.count y.cost y.count);
  join_none = λ x h. both _ _ _ _ (omega arith) (joined_none x.cost x.count h);
  chain_assoc = λ x y z h k l. both _ _ _ _ (omega arith) (chained_assoc x.cost x.count y.cost y.count z.cost z.count);
  chain_comm = λ x y h k. both _ _ _ _ (omega arith) (chained_comm x.cost x.count y.cost y.count);
  chain_unit = λ x h. both _ _ _ _ (omega arith) (chained_unit x.cost x.count h);
  chain_none = λ x h. both _ _ _ _ (omega arith) (grind (arith, nat_tests));
  chain_join = λ x y z h k l. both _ _ _ _ (omega arith) (chained_joined x.cost x.count y.cost y.count z.cost z.count);
  value_top = refl;
}
