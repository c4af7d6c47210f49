-- Card's children: a pair with equal keys, or all keys differ and the last child is left.
use Prim.Native.Nat.{ℕ}
use mathlib.Core.Path.{◌≡◌}
use mathlib.Core.Logic.{◌⊎◌, inl, inr}
use mathlib.Core.HLevel.{Discrete}
use mathlib.Core.List.{List, [], ◌∷◌, map}
use Rattle.lists.specs.Lists.{NotIn, Distinct, Any}
use Rattle.calculus.specs.Facts.{Fact, same}
use Rattle.calculus.specs.Children.{pair_children_with, pair_children}

module _ {K : Type 0} (key : ℕ → K) (P : List Fact → Type 0) where
  pair_last : (x : ℕ) (ys : List ℕ) (more : List (List Fact)) → Any P more → Any P (pair_children_with x ys more)
  pair_last x [] more h = h
  pair_last x (y ∷ ys) more h = inr (pair_last x ys more h)

  pub pairs_last : (xs : List ℕ) (more : List (List Fact)) → Any P more → Any P (pair_children xs more)
  pairs_last [] more h = h
  pairs_last (x ∷ xs) more h = pair_last x xs (pair_children xs more) (pairs_last xs more h)

  module _ (discrete : Discrete K) (equal : (x y : ℕ) → key x ≡ key y → P (same x y ∷ [])) where
    pair_or_distinct : (x : ℕ) (ys : List ℕ) (more : List (List Fact)) → Any P (pair_children_with x ys more) ⊎ NotIn (key x) (map key ys)
    pair_or_distinct x [] more = inr tt
    pair_or_distinct x (y ∷ ys) more = go (discrete (key x) (key y)) (pair_or_distinct x ys more)
      where
        go : Dec (key x ≡ key y)
            → Any P (pair_children_with x ys more) ⊎ NotIn (key x) (map key ys)
            → Any P (pair_children_with x (y ∷ ys) more) ⊎ NotIn (key x) (map key (y ∷ ys))
        go (yes e) h = inl (inl (equal x y e))
        go (no f) (inl h) = inl (inr h)
        go (no f) (inr h) = inr (f, h)

    pub pairs_or_distinct : (xs : List ℕ) (more : List (List Fact)) → Any P (pair_children xs more) ⊎ Distinct (map key xs)
    pairs_or_distinct [] more = inr tt
    pairs_or_distinct (x ∷ xs) more = go (pair_or_distinct x xs (pair_children xs more)) (pairs_or_distinct xs more)
      where
        go : Any P (pair_children_with x xs (pair_children xs more)) ⊎ NotIn (key x) (map key xs)
            → Any P (pair_children xs more) ⊎ Distinct (map key xs)
            → Any P (pair_children (x ∷ xs) more) ⊎ Distinct (map key (x ∷ xs))
        go (inl h) d = inl h
        go (inr h) (inl g) = inl (pair_last x xs (pair_children xs more) g)
        go (inr h) (inr g) = inr (h, g)

  module _ (differ : (x y : ℕ) → P (same x y ∷ []) → key x ≡ key y) where
    pair_distinct : (x : ℕ) (ys : List ℕ) (more : List (List Fact)) → NotIn (key x) (map key ys) → Any P (pair_children_with x ys more) → Any P more
    pair_distinct x [] more d h = h
    pair_distinct x (y ∷ ys) more d (inl h) = absurd (d.0 (differ x y h))
    pair_distinct x (y ∷ ys) more d (inr h) = pair_distinct x ys more d.1 h

    pub pairs_distinct : (xs : List ℕ) (more : List (List Fact)) → Distinct (map key xs) → Any P (pair_children xs more) → Any P more
    pairs_distinct [] more d h = h
    pairs_distinct (x ∷ xs) more (d, ds) h = pairs_distinct xs more ds (pair_distinct x xs (pair_children xs more) d h)
