-- A sixteenth power modulo n by four squarings.
use Rattle.std.proofs.Common.{◌≡◌, ℕ, zero, suc, ◌+◌, ◌*◌, ◌/◌, ◌%◌, ◌^◌, sym, ap, ◌∙◌, add-suc, suc-add, pow-suc, arith}
use native.Mathlib.Nat.{div-add-mod, add-mul-mod_self_left, pow-zero}

ring : (n q r : ℕ) → (n * q + r) * (n * q + r) ≡ r * r + n * (q * (n * q + r) + r * q)
ring n q r = omega arith

mod_square : (n x : ℕ) → ((x % n) * (x % n)) % n ≡ (x * x) % n
mod_square n x =
    let q = x / n in
    let r = x % n in
    sym (ap (λ t. (t * t) % n) (sym (div-add-mod x n)) ∙ ap (λ t. t % n) (ring n q r) ∙ add-mul-mod_self_left (r * r) n (q * (n * q + r) + r * q))

pow_twice : (x k : ℕ) → x ^ k * x ^ k ≡ x ^ (k + k)
pow_twice x zero = ap (λ t. t * x ^ 0) (pow-zero x) ∙ ap (λ t. 1 * t) (pow-zero x) ∙ sym (pow-zero x)
pow_twice x (suc k) =
    ap (λ t. t * x ^ suc k) (pow-suc x k) ∙ ap (λ t. x ^ k * x * t) (pow-suc x k) ∙ regroup (x ^ k) x
    ∙ ap (λ t. t * x * x) (pow_twice x k) ∙ ap (λ t. t * x) (sym (pow-suc x (k + k))) ∙ sym (pow-suc x (suc (k + k)))
    ∙ ap (λ t. x ^ t) (sym (suc-add k (suc k) ∙ ap suc (add-suc k k)))
  where
    regroup : (p x : ℕ) → p * x * (p * x) ≡ p * p * x * x
    regroup p x = omega arith

squared : (n b k s t : ℕ) → s ≡ (b ^ k) % n → t ≡ (s * s) % n → t ≡ (b ^ (k + k)) % n
squared n b k s t h e = e ∙ ap (λ u. (u * u) % n) h ∙ mod_square n (b ^ k) ∙ ap (λ u. u % n) (pow_twice b k)

pub sixteenth : (n b s t u v : ℕ) → s ≡ (b * b) % n → t ≡ (s * s) % n → u ≡ (t * t) % n → v ≡ (u * u) % n → v ≡ (b ^ 16) % n
sixteenth n b s t u v p q r w =
    let one : b * b ≡ b ^ 2 = sym (pow-suc b 1 ∙ ap (λ x. x * b) (pow-suc b 0 ∙ ap (λ x. x * b) (pow-zero b) ∙ omega arith)) in
    squared n b 8 u v (squared n b 4 t u (squared n b 2 s t (p ∙ ap (λ x. x % n) one) q) r) w
