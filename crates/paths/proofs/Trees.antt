-- Groupings as trees with the stages' numbers at their leaves, in order.
use Rattle.std.proofs.Common.{◌≡◌, ℕ, zero, suc, ◌+◌, List, [], ◌∷◌, ◌++◌, map, length, sym, refl, ap, ◌∙◌, add-zero, add-suc, suc-add, zero-add, arith}
use Rattle.std.specs.List.{flat_map}
use Rattle.std.proofs.lemmas.List.{append-nil, append_assoc}
use Rattle.paths.specs.declared.edges.Edge.{Edge}
use Rattle.paths.specs.Semirings.{Operations}
use Rattle.paths.specs.Metastages.{Matrix, of_stage, product, stages_from, merged, merges}

pub data Tree : Type 0 where
  leaf : ℕ → Tree
  node : Tree → Tree → Tree

abbrev pub fringe : Tree → List ℕ
fringe (leaf k) = k ∷ []
fringe (node l r) = fringe l ++ fringe r

-- the metastage that a tree makes
abbrev pub grouped : {W : Type 0} → Operations W → ℕ → (ℕ → List Edge) → Tree → Matrix W
grouped o states g (leaf k) = of_stage o (g k)
grouped o states g (node l r) = product o states (grouped o states g l) (grouped o states g r)

pub length_from : (k n : ℕ) → length (stages_from k n) ≡ n
length_from k zero = refl
length_from k (suc n) = ap suc (length_from (suc k) n)

-- a run of numbers in two parts
pub record Cut (xs ys : List ℕ) (k n : ℕ) : Type 0 where
  pub a : ℕ
  pub b : ℕ
  pub left : xs ≡ stages_from k a
  pub right : ys ≡ stages_from (k + a) b
  pub all : a + b ≡ n

pub cut : (xs ys : List ℕ) (k n : ℕ) → xs ++ ys ≡ stages_from k n → Cut xs ys k n
cut [] ys k n h = record { a = 0; b = n; left = refl; right = h ∙ ap (λ j. stages_from j n) (sym (add-zero k)); all = zero-add n }
cut (x ∷ xs) ys k zero h = absurd (let z : ◌≡◌ {A = ℕ} 0 1 = cc in omega arith)
cut (x ∷ xs) ys k (suc n) h =
    let t : xs ++ ys ≡ stages_from (suc k) n = cc in
    let e : x ≡ k = cc in
    let c = cut xs ys (suc k) n t in
    record { a = suc c.a; b = c.b; left = ap (λ y. y ∷ xs) e ∙ ap (◌∷◌ k) c.left; right = c.right ∙ ap (λ j. stages_from j c.b) (suc-add k c.a ∙ sym (add-suc k c.a)); all = suc-add c.a c.b ∙ ap suc c.all }

-- merging trees merges their metastages
module _ {A B : Type 0} (h : A → B) (op : A → A → A) (up : B → B → B) (same : (x y : A) → h (op x y) ≡ up (h x) (h y)) where
  map_merged : (i : ℕ) (xs : List A) → map h (merged op i xs) ≡ merged up i (map h xs)
  map_merged i [] = refl
  map_merged i (x ∷ []) = refl
  map_merged zero (x ∷ y ∷ rest) = ap (λ z. z ∷ map h rest) (same x y)
  map_merged (suc i) (x ∷ y ∷ rest) = ap (◌∷◌ (h x)) (map_merged i (y ∷ rest))

  pub map_merges : (is : List ℕ) (xs : List A) → map h (merges op is xs) ≡ merges up is (map h xs)
  map_merges [] xs = refl
  map_merges (i ∷ is) xs = map_merges is (merged op i xs) ∙ ap (merges up is) (map_merged i xs)

fringe_merged : (i : ℕ) (xs : List Tree) → flat_map fringe (merged node i xs) ≡ flat_map fringe xs
fringe_merged i [] = refl
fringe_merged i (x ∷ []) = refl
fringe_merged zero (x ∷ y ∷ rest) = append_assoc (fringe x) (fringe y) (flat_map fringe rest)
fringe_merged (suc i) (x ∷ y ∷ rest) = ap (◌++◌ (fringe x)) (fringe_merged i (y ∷ rest))

pub fringe_merges : (is : List ℕ) (xs : List Tree) → flat_map fringe (merges node is xs) ≡ flat_map fringe xs
fringe_merges [] xs = refl
fringe_merges (i ∷ is) xs = fringe_merges is (merged node i xs) ∙ fringe_merged i xs

pub fringe_leaves : (ks : List ℕ) → flat_map fringe (map leaf ks) ≡ ks
fringe_leaves [] = refl
fringe_leaves (k ∷ ks) = ap (◌∷◌ k) (fringe_leaves ks)

pub map_leaves : {W : Type 0} (o : Operations W) (states : ℕ) (g : ℕ → List Edge) (ks : List ℕ) → map (grouped o states g) (map leaf ks) ≡ map (λ k. of_stage o (g k)) ks
map_leaves o states g [] = refl
map_leaves o states g (k ∷ ks) = ap (◌∷◌ (of_stage o (g k))) (map_leaves o states g ks)

-- a metastage that a tree of these stages makes
pub record Made {W : Type 0} (h : Tree → Matrix W) (ks : List ℕ) (x : Matrix W) : Type 0 where
  pub tree : Tree
  pub is : h tree ≡ x
  pub in_order : fringe tree ≡ ks

pub made : {W : Type 0} (h : Tree → Matrix W) (ks : List ℕ) (x : Matrix W) (trees : List Tree) → map h trees ≡ x ∷ [] → flat_map fringe trees ≡ ks → Made h ks x
made h ks x [] e f = absurd (let z : ◌≡◌ {A = ℕ} 0 1 = ap length e in omega arith)
made h ks x (t ∷ []) e f = record { tree = t; is = cc; in_order = sym (append-nil (fringe t)) ∙ f }
made h ks x (t ∷ u ∷ rest) e f = absurd (let z = ap length e in omega arith)
