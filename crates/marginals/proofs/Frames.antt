-- The rows of a frame.
use Rattle.std.proofs.Common.{◌≡◌, ℕ, ◌+◌, ◌-◌, ◌*◌, ◌<◌, ◌≤◌, List, length, get_or, take, drop, ◌++◌, sym, ap, ◌∙◌, ⊎_elim, mul-le-mul_right, add-mul, one-mul, length-take, arith}
use borrow.Rule.Slice.PartMut.{put_mid, post_of}
use Rattle.std.proofs.lemmas.List.{get_or-take, get_or-drop, get_or_append_left, get_or-append_right}
use Rattle.std.proofs.lemmas.Bool.{cases_eq}
use Rattle.paths.specs.Semirings.{Operations}
use Rattle.marginals.specs.Words.{entry_of}

-- a row ends before the next begins
pub row_under : (s r states : ℕ) → s < r → s * states + states ≤ r * states
row_under s r states h =
    let a : (s + 1) * states ≤ r * states = mul-le-mul_right states (omega arith) in
    let b : (s + 1) * states ≡ s * states + 1 * states = add-mul s 1 states in
    omega (arith, one-mul states)

-- the place of two states in a frame
pub place_low : (s t states : ℕ) → states ≤ 16 → s < states → t < states → s * states + t < 256
place_low s t states few h l =
    let u = row_under s states states h in
    let v : states * states ≤ 16 * states = mul-le-mul_right states few in
    omega arith

-- a part put in the place of another leaves what stands before it, and stands there itself
module _ {W : Type 0} (d : W) (a k : ℕ) (xs ys : List W) (room : a ≤ length xs) where
  length_front : length (take a xs) ≡ a
  length_front = omega (arith, length-take a xs)

  pub put_before : (p : ℕ) → p < a → get_or (put_mid a k xs ys) p d ≡ get_or xs p d
  put_before p h =
      let l = length_front in
      get_or_append_left (take a xs) (ys ++ post_of a k xs) d p (omega arith) ∙ get_or-take a xs p d h

  pub put_within : (t : ℕ) → t < length ys → get_or (put_mid a k xs ys) (a + t) d ≡ get_or ys t d
  put_within t h =
      let l = length_front in
      let at : a + t - a ≡ t = omega arith in
      get_or-append_right (take a xs) (ys ++ post_of a k xs) a (a + t) d l (omega arith)
      ∙ ap (λ n. get_or (ys ++ post_of a k xs) n d) at
      ∙ get_or_append_left ys (post_of a k xs) d t h

  pub put_behind : length ys ≡ k → a + k ≤ length xs → (p : ℕ) → a + k ≤ p → get_or (put_mid a k xs ys) p d ≡ get_or xs p d
  put_behind long within p h =
      let l = length_front in
      let at : a + (k + (p - a - k)) ≡ p = omega arith in
      get_or-append_right (take a xs) (ys ++ post_of a k xs) a p d l (omega arith) ∙ get_or-append_right ys (post_of a k xs) k (p - a) d long (omega arith)
      ∙ get_or-drop k (drop a xs) (p - a - k) d ∙ get_or-drop a xs (k + (p - a - k)) d ∙ ap (λ i. get_or xs i d) at

-- a part of n entries from a place on, at an entry of it
pub part_entry : {W : Type 0} (d : W) (xs : List W) (at n s : ℕ) → s < n → get_or (take (at + n - at) (drop at xs)) s d ≡ get_or xs (at + s) d
part_entry d xs at n s h =
    let many : at + n - at ≡ n = omega arith in
    ap (λ m. get_or (take m (drop at xs)) s d) many ∙ get_or-take n (drop at xs) s d h ∙ get_or-drop at xs s d

-- so many rows of a frame are laid
abbrev pub FrameLaid : {W : Type 0} → Operations W → List W → List W → ℕ → ℕ → List W → Type 0
FrameLaid o before after states r frame =
    (s t : ℕ) → s < r → t < states → get_or frame (s * states + t) o.none ≡ o.chain (entry_of o before s) (entry_of o after t)

pub frame_more : {W : Type 0} (o : Operations W) (before after : List W) (states r k : ℕ) (frame row : List W) → FrameLaid o before after states r frame
    → r * states ≤ length frame → length row ≡ states → ((t : ℕ) → t < states → get_or row t o.none ≡ o.chain (entry_of o before r) (entry_of o after t))
    → FrameLaid o before after states (r + 1) (put_mid (r * states) k frame row)
frame_more o before after states r k frame row was room long laid s t h l =
    ⊎_elim
    (λ e. ap (λ n. get_or (put_mid (r * states) k frame row) (n * states + t) o.none) e ∙ put_within o.none (r * states) k frame row room t (omega arith) ∙ laid t l
    ∙ ap (λ n. o.chain (entry_of o before n) (entry_of o after t)) (sym e))
    (λ ne. let u = row_under s r states (omega arith) in put_before o.none (r * states) k frame row room (s * states + t) (omega arith) ∙ was s t (omega arith) l)
    (cases_eq s r)

-- the frame between the fronts of two columns is that between the columns
pub frame_of : {W : Type 0} (o : Operations W) (before after frame : List W) (n : ℕ) → n ≤ length before → n ≤ length after
    → FrameLaid o (take n before) (take n after) (length (take n after)) (length (take n before)) frame → FrameLaid o before after n n frame
frame_of o before after frame n p q laid s t h l =
    let b : length (take n before) ≡ n = omega (arith, length-take n before) in
    let a : length (take n after) ≡ n = omega (arith, length-take n after) in
    ap (λ m. get_or frame (s * m + t) o.none) (sym a) ∙ laid s t (omega arith) (omega arith)
    ∙ ap (λ x. o.chain x (entry_of o (take n after) t)) (get_or-take n before s o.none h) ∙ ap (o.chain (entry_of o before s)) (get_or-take n after t o.none l)
