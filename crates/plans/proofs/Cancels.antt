-- The quadratic permutation polynomial is one to one: its quadratic factor is nilpotent, its linear one a unit.
use Rattle.std.proofs.Common.{◌≡◌, ℕ, zero, suc, ◌+◌, ◌-◌, ◌*◌, ◌/◌, ◌%◌, ◌^◌, ◌<◌, ◌≤◌, sym, refl, ap, ◌∙◌, subst, ⊎_elim, mod-lt, pow-suc, mul-one, arith}
use Prim.Native.Nat.{◌∣◌}
use native.Mathlib.Nat.{div-add-mod, dvd_refl, dvd-zero, dvd-mul_right, dvd-mul_left_of_dvd, dvd-mul_right_of_dvd, dvd-add_iff_right, dvd-add_iff_left, dvd-mod_iff, dvd-sub, le_of_dvd, pow-zero}
use Rattle.std.proofs.lemmas.Bool.{cases_lt}
use Rattle.plans.specs.Divisors.{Coprime}

-- what divides a times x and b times x divides their common divisor times x
record Euclid (a b : ℕ) : Type 0 where
  g : ℕ
  left : g ∣ a
  right : g ∣ b
  takes : (m x : ℕ) → m ∣ a * x → m ∣ b * x → m ∣ g * x

euclid : (fuel a b : ℕ) → b ≤ fuel → Euclid a b
euclid zero a b h = let z : 0 ≡ b = omega arith in record { g = a; left = dvd_refl a; right = subst (λ t. a ∣ t) z (dvd-zero a); takes = λ m x p q. p }
euclid (suc fuel) a zero h = record { g = a; left = dvd_refl a; right = dvd-zero a; takes = λ m x p q. p }
euclid (suc fuel) a (suc b) h =
    let small : a % suc b < suc b = mod-lt a (omega arith) in
    let e = euclid fuel (suc b) (a % suc b) (omega arith) in
    record {
      g = e.g;
      left = (dvd-mod_iff e.g e.left).0 e.right;
      right = e.left;
      takes = λ m x p q.
          let split : a * x ≡ (a / suc b) * (suc b * x) + (a % suc b) * x = ap (λ t. t * x) (sym (div-add-mod a (suc b))) ∙ omega arith in
          e.takes m x q ((dvd-add_iff_right m (dvd-mul_left_of_dvd m q (a / suc b))).1 (subst (λ t. m ∣ t) split p));
    }

gauss : (n a x : ℕ) → ((d : ℕ) → d ∣ a → d ∣ n → d ≡ 1) → n ∣ a * x → n ∣ x
gauss n a x apart h =
    let e = euclid n a n (omega arith) in
    let one : e.g * x ≡ x = ap (λ t. t * x) (apart e.g e.left e.right) ∙ omega arith in
    subst (λ t. n ∣ t) one (e.takes n x h (dvd-mul_right n x))

-- y has a power that vanishes, so a + y cancels as a does
cancels : (n a y d : ℕ) → ((e : ℕ) → e ∣ a → e ∣ n → e ≡ 1) → n ∣ d * (a + y) → (k : ℕ) → n ∣ d * y ^ k → n ∣ d
cancels n a y d apart h zero p = let e : d * y ^ 0 ≡ d = ap (λ t. d * t) (pow-zero y) ∙ mul-one d in subst (λ t. n ∣ t) e p
cancels n a y d apart h (suc k) p =
    let more : d * y ^ suc k ≡ d * (y ^ k * y) = ap (λ t. d * t) (pow-suc y k) in
    let split : y ^ k * (d * (a + y)) ≡ a * (d * y ^ k) + d * (y ^ k * y) = regroup (y ^ k) d a y in
    let both : n ∣ a * (d * y ^ k) + d * (y ^ k * y) = subst (λ t. n ∣ t) split (dvd-mul_left_of_dvd n h (y ^ k)) in
    let last : n ∣ d * (y ^ k * y) = subst (λ t. n ∣ t) more p in
    cancels n a y d apart h k (gauss n a (d * y ^ k) apart ((dvd-add_iff_left n last).1 both))
  where
    regroup : (z d a y : ℕ) → z * (d * (a + y)) ≡ a * (d * z) + d * (z * y)
    regroup z d a y = omega arith

mul_power : (b c k : ℕ) → (b * c) ^ k ≡ b ^ k * c ^ k
mul_power b c zero = pow-zero (b * c) ∙ sym (ap (λ t. t * c ^ 0) (pow-zero b) ∙ ap (λ t. 1 * t) (pow-zero c))
mul_power b c (suc k) =
    pow-suc (b * c) k ∙ ap (λ t. t * (b * c)) (mul_power b c k) ∙ regroup (b ^ k) (c ^ k) b c ∙ sym (ap (λ t. t * c ^ suc k) (pow-suc b k) ∙ ap (λ t. b ^ k * b * t) (pow-suc c k))
  where
    regroup : (x y b c : ℕ) → x * y * (b * c) ≡ x * b * (y * c)
    regroup x y b c = omega arith

same_rest : (n x z : ℕ) → (x + z) % n ≡ x % n → n ∣ z
same_rest n x z h =
    let p = div-add-mod (x + z) n in
    let q = div-add-mod x n in
    let e : n * ((x + z) / n) - n * (x / n) ≡ z = omega arith in
    subst (λ t. n ∣ t) e (dvd-sub n (dvd-mul_right n ((x + z) / n)) (dvd-mul_right n (x / n)))

multiple_below : (n d : ℕ) → n ∣ d → d < n → d ≡ 0
multiple_below n zero h l = refl
multiple_below n (suc d) h l = absurd (let k = le_of_dvd (omega arith) h in omega arith)

ahead : (n a b : ℕ) → Coprime a n → n ∣ b ^ 16 → (j d : ℕ) → j + d < n → (a * (j + d) + b * (j + d) * (j + d)) % n ≡ (a * j + b * j * j) % n → d ≡ 0
ahead n a b apart vanishes j d low h =
    let y = b * (j + d + j) in
    let split : a * (j + d) + b * (j + d) * (j + d) ≡ (a * j + b * j * j) + d * (a + y) = omega arith in
    let whole : n ∣ d * (a + y) = same_rest n (a * j + b * j * j) (d * (a + y)) (ap (λ t. t % n) (sym split) ∙ h) in
    let power : n ∣ y ^ 16 = subst (λ t. n ∣ t) (sym (mul_power b (j + d + j) 16)) (dvd-mul_right_of_dvd n vanishes ((j + d + j) ^ 16)) in
    multiple_below n d (cancels n a y d apart whole 16 (dvd-mul_left_of_dvd n power d)) (omega arith)

pub one_to_one : (n a b : ℕ) → Coprime a n → n ∣ b ^ 16 → (i j : ℕ) → i < n → j < n → (a * i + b * i * i) % n ≡ (a * j + b * j * j) % n → i ≡ j
one_to_one n a b apart vanishes i j low small h =
    ⊎_elim
    (λ l.
    let e : i + (j - i) ≡ j = omega arith in
    let z = ahead n a b apart vanishes i (j - i) (omega arith) (ap (λ t. (a * t + b * t * t) % n) e ∙ sym h) in omega arith)
    (λ l.
    let e : j + (i - j) ≡ i = omega arith in
    let z = ahead n a b apart vanishes j (i - j) (omega arith) (ap (λ t. (a * t + b * t * t) % n) e ∙ h) in omega arith)
    (cases_lt i j)
