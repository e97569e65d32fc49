-- Numbers modulo 65,536 stand for costs that lie within one window, and join and chain keep that.
use Rattle.std.proofs.Common.{◌≡◌, ℕ, ◌+◌, ◌-◌, ◌%◌, ◌<◌, ◌≤◌, min, ◌⊎◌, Some, sym, ap, ◌∙◌, inl, inr, ⊎_elim, arith, w16, to_z}
use Rattle.std.proofs.Math.Nat.{add-mod}
use Rattle.std.proofs.lemmas.Bool.{cases_lt, eq-eqb, ne_eqb}
use Rattle.paths.specs.Least.{top}
use Rattle.modulo.specs.Modulo.{apart, nearer, sum_modulo, Stands, reliability, reliability_modulo}
use Rattle.modulo.proofs.Numbers.{nearer_left, nearer_right, nearer_takes, nearer_keeps, sum_left, sum_right, sum_both, apart_up, apart_down, signed_apart}

-- x is the top, or lies within lo .. lo + d
abbrev pub Within : ℕ → ℕ → ℕ → Type 0
Within lo d x = (x ≡ top) ⊎ ((x < top) × (lo ≤ x) × (x ≤ lo + d))

-- y stands for x, and x lies within lo .. lo + d
abbrev pub StandsWithin : ℕ → ℕ → ℕ → ℕ → Type 0
StandsWithin lo d x y = ((x ≡ top) × (y ≡ 65536)) ⊎ ((x < top) × (lo ≤ x) × (x ≤ lo + d) × (y ≡ x % 65536))

-- a window, put on and taken off
pub put_within : (lo d x y : ℕ) → Within lo d x → Stands x y → StandsWithin lo d x y
put_within lo d x y h (inl k) = inl k
put_within lo d x y (inl h) (inr k) = absurd (omega arith)
put_within lo d x y (inr h) (inr k) = inr (k.0, h.1, h.2, k.1)

pub still_stands : (lo d x y : ℕ) → StandsWithin lo d x y → Stands x y
still_stands lo d x y (inl h) = inl h
still_stands lo d x y (inr h) = inr (h.0, h.3)

pub window_of : (lo d x y : ℕ) → StandsWithin lo d x y → Within lo d x
window_of lo d x y (inl h) = inl h.0
window_of lo d x y (inr h) = inr (h.0, h.1, h.2)

pub wider : (lo d lo' d' x : ℕ) → lo' ≤ lo → lo + d ≤ lo' + d' → Within lo d x → Within lo' d' x
wider lo d lo' d' x h k (inl n) = inl n
wider lo d lo' d' x h k (inr n) = inr (n.0, omega arith, omega arith)

-- two costs of one window lie near each other
pub window_near : (lo d x x' : ℕ) → Within lo d x → Within lo d x' → x < top → x' < top → x ≤ x' + d
window_near lo d x x' (inl h) k l l' = absurd (omega arith)
window_near lo d x x' (inr h) (inl k) l l' = absurd (omega arith)
window_near lo d x x' (inr h) (inr k) l l' = omega arith

-- join keeps a window
pub join_window : (lo d x x' : ℕ) → Within lo d x → Within lo d x' → Within lo d (min x x')
join_window lo d x x' (inl h) (inl k) = inl (omega arith)
join_window lo d x x' (inl h) (inr k) = inr (omega arith, omega arith, omega arith)
join_window lo d x x' (inr h) (inl k) = inr (omega arith, omega arith, omega arith)
join_window lo d x x' (inr h) (inr k) = inr (omega arith, omega arith, omega arith)

-- and what stands for it, where the window is narrower than 32,768
pub join_within : (lo d x y x' y' : ℕ) → d < 32768 → StandsWithin lo d x y → StandsWithin lo d x' y' → StandsWithin lo d (min x x') (nearer y y')
join_within lo d x y x' y' small (inl h) (inl k) = inl (omega arith, nearer_left y y' h.1 ∙ k.1)
join_within lo d x y x' y' small (inl h) (inr k) = inr (omega arith, omega arith, omega arith, nearer_left y y' h.1 ∙ k.3 ∙ ap (λ n. n % 65536) (omega arith))
join_within lo d x y x' y' small (inr h) (inl k) = inr (omega arith, omega arith, omega arith, nearer_right y y' (omega arith) k.1 ∙ h.3 ∙ ap (λ n. n % 65536) (omega arith))
join_within lo d x y x' y' small (inr h) (inr k) =
    inr (
      omega arith,
      omega arith,
      omega arith,
      ⊎_elim
          (λ l.
          let a : apart y y' ≡ 65536 - (x' - x) = ap (λ n. apart n y') h.3 ∙ ap (apart (x % 65536)) k.3 ∙ apart_down x x' l (omega arith) in
          nearer_keeps y y' (omega arith) (omega arith) (omega arith) ∙ h.3 ∙ ap (λ n. n % 65536) (omega arith))
          (λ l.
          let a : apart y y' ≡ x - x' = ap (λ n. apart n y') h.3 ∙ ap (apart (x % 65536)) k.3 ∙ apart_up x x' l (omega arith) in
          nearer_takes y y' (omega arith) (omega arith) (omega arith) ∙ k.3 ∙ ap (λ n. n % 65536) (omega arith))
          (cases_lt x x'),
    )

-- chain adds the windows, where the sum stays below the top
pub chain_window : (lo d lo' d' x x' : ℕ) → (x < top → x' < top → x + x' < top) → Within lo d x → Within lo' d' x' → Within (lo + lo') (d + d') (min (x + x') top)
chain_window lo d lo' d' x x' room (inl h) k = inl (omega arith)
chain_window lo d lo' d' x x' room (inr h) (inl k) = inl (omega arith)
chain_window lo d lo' d' x x' room (inr h) (inr k) = let l = room h.0 k.0 in inr (omega arith, omega arith, omega arith)

pub chain_stands : (x y x' y' : ℕ) → (x < top → x' < top → x + x' < top) → Stands x y → Stands x' y' → Stands (min (x + x') top) (sum_modulo y y')
chain_stands x y x' y' room (inl h) k = inl (omega arith, sum_left y y' h.1)
chain_stands x y x' y' room (inr h) (inl k) = inl (omega arith, sum_right y y' (omega arith) k.1)
chain_stands x y x' y' room (inr h) (inr k) =
    let l = room h.0 k.0 in
    inr (
      omega arith,
      sum_both y y' (omega arith) (omega arith)
          ∙ ap (λ n. (n + y') % 65536) h.1 ∙ ap (λ n. (x % 65536 + n) % 65536) k.1
          ∙ sym (add-mod x x' 65536) ∙ ap (λ n. n % 65536) (omega arith),
    )

-- a low cost's value stands for it
pub value_within : (ceiling c : ℕ) → c ≤ ceiling → ceiling < 32768 → StandsWithin 0 ceiling (min c top) (c % 65536)
value_within ceiling c h k = inr (omega arith, omega arith, omega arith, ap (λ n. n % 65536) (omega arith))

-- two costs of one window give their difference
pub reliability_within : (lo d x x' y y' : ℕ) → d < 32768 → StandsWithin lo d x x' → StandsWithin lo d y y' → reliability_modulo x' y' ≡ reliability x y
unfolding reliability reliability_modulo
reliability_within lo d x x' y y' small (inl h) k = rw (eq-eqb x' 65536 h.1, eq-eqb x top h.0)
reliability_within lo d x x' y y' small (inr h) (inl k) =
    rw (ne_eqb x' 65536 (λ e. omega arith), ne_eqb x top (λ e. omega arith), eq-eqb y' 65536 k.1, eq-eqb y top k.0)
reliability_within lo d x x' y y' small (inr h) (inr k) =
    rw (ne_eqb x' 65536 (λ e. omega arith), ne_eqb x top (λ e. omega arith), ne_eqb y' 65536 (λ e. omega arith), ne_eqb y top (λ e. omega arith))
    (ap Some (ap (λ n. to_z w16 (apart n y')) h.3 ∙ ap (λ n. to_z w16 (apart (x % 65536) n)) k.3 ∙ signed_apart x y (omega arith) (omega arith)))
