-- Two lists of one length whose elements are related place by place.
use Prim.Native.Nat.{ℕ, zero, suc}
use mathlib.Core.Path.{◌≡◌, refl, ap, ap₂, subst}
use mathlib.Core.Bool.{Bool, ◌&&◌, ◌||◌}
use mathlib.Core.Option.{some}
use mathlib.Core.List.{List, [], ◌∷◌, ◌++◌}
use lib.ListN.{length, get_elem?}
use Rattle.lists.specs.Lists.{all, any}
use Rattle.lists.proofs.Options.{none_some, some_injective}

abbrev pub Matched : {A B : Type 0} → (A → B → Type 0) → List A → List B → Type 0
Matched R [] [] = Unit {0}
Matched R [] (y ∷ ys) = ⊥
Matched R (x ∷ xs) [] = ⊥
Matched R (x ∷ xs) (y ∷ ys) = R x y × Matched R xs ys

module _ {A B : Type 0} (R : A → B → Type 0) where
  pub matched_append : (xs zs : List A) (ys ws : List B) → Matched R xs ys → Matched R zs ws → Matched R (xs ++ zs) (ys ++ ws)
  matched_append [] zs [] ws h g = g
  matched_append [] zs (y ∷ ys) ws h g = absurd h
  matched_append (x ∷ xs) zs [] ws h g = absurd h
  matched_append (x ∷ xs) zs (y ∷ ys) ws (h, hs) g = (h, matched_append xs zs ys ws hs g)

  pub matched_at : (xs : List A) (ys : List B) (k : ℕ) {x : A} → Matched R xs ys → get_elem? xs k ≡ some x → (y : B) × (get_elem? ys k ≡ some y) × R x y
  matched_at [] [] k h e = absurd (none_some e)
  matched_at [] (y ∷ ys) k h e = absurd h
  matched_at (x ∷ xs) [] k h e = absurd h
  matched_at (x ∷ xs) (y ∷ ys) zero (h, hs) e = (y, refl, subst (λ x. R x y) (some_injective e) h)
  matched_at (x ∷ xs) (y ∷ ys) (suc k) (h, hs) e = matched_at xs ys k hs e

  pub matched_length : (xs : List A) (ys : List B) → Matched R xs ys → length xs ≡ length ys
  matched_length [] [] h = refl
  matched_length [] (y ∷ ys) h = absurd h
  matched_length (x ∷ xs) [] h = absurd h
  matched_length (x ∷ xs) (y ∷ ys) (h, hs) = ap suc (matched_length xs ys hs)

  pub matched_map : {S : A → B → Type 0} → ((x : A) (y : B) → R x y → S x y) → (xs : List A) (ys : List B) → Matched R xs ys → Matched S xs ys
  matched_map f [] [] h = tt
  matched_map f [] (y ∷ ys) h = absurd h
  matched_map f (x ∷ xs) [] h = absurd h
  matched_map f (x ∷ xs) (y ∷ ys) (h, hs) = (f x y h, matched_map f xs ys hs)

  module _ (s : A → Bool) (t : B → Bool) (same : (x : A) (y : B) → R x y → s x ≡ t y) where
    -- tests that agree on related elements agree on the lists
    pub matched_all : (xs : List A) (ys : List B) → Matched R xs ys → all s xs ≡ all t ys
    matched_all [] [] h = refl
    matched_all [] (y ∷ ys) h = absurd h
    matched_all (x ∷ xs) [] h = absurd h
    matched_all (x ∷ xs) (y ∷ ys) (h, hs) = ap₂ ◌&&◌ (same x y h) (matched_all xs ys hs)

    pub matched_any : (xs : List A) (ys : List B) → Matched R xs ys → any s xs ≡ any t ys
    matched_any [] [] h = refl
    matched_any [] (y ∷ ys) h = absurd h
    matched_any (x ∷ xs) [] h = absurd h
    matched_any (x ∷ xs) (y ∷ ys) (h, hs) = ap₂ ◌||◌ (same x y h) (matched_any xs ys hs)

pub matched_same : {A : Type 0} (R : A → A → Type 0) → ((x : A) → R x x) → (xs : List A) → Matched R xs xs
matched_same R r [] = tt
matched_same R r (x ∷ xs) = (r x, matched_same R r xs)
