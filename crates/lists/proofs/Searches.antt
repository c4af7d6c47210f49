-- The first element of a list that passes a test, by its place.
use Prim.Native.Nat.{ℕ, zero, suc, ◌<◌}
use native.Mathlib.Omega.{arith}
use mathlib.Core.Path.{◌≡◌, refl, ◌∙◌, ap, subst}
use mathlib.Core.Bool.{Bool, true, false}
use mathlib.Core.Option.{Option, none, some}
use mathlib.Core.List.{List, [], ◌∷◌, ◌++◌}
use lib.ListN.{length, get_elem?, take, drop, take-append-drop}
use Rattle.lists.specs.Lists.{All, lowest}
use Rattle.lists.proofs.Lists.{all_at}
use Rattle.lists.proofs.Options.{none_some, some_none, some_injective}

module _ {A : Type 0} (test : A → Bool) where
  -- by whether the first element passes, and by the first of the others
  abbrev pub turn : Bool → Option ℕ → Option ℕ
  turn t o = elim t as (λ _. Option ℕ) [ true ↦ some 0 | false ↦ elim o as (λ _. Option ℕ) [ none ↦ none | some k ↦ some (suc k) ] ]

  -- it is an element of the list and passes
  pub lowest_passes : (b : List A) (k : ℕ) → lowest test b ≡ some k → (f : A) × (get_elem? b k ≡ some f) × (test f ≡ true)
  unfolding lowest
  lowest_passes [] k e = absurd (none_some e)
  lowest_passes (f ∷ b) k e = go (test f) refl (lowest test b) (lowest_passes b) k e
    where
      go : (t : Bool)
          → test f ≡ t
          → (o : Option ℕ)
          → ((j : ℕ) → o ≡ some j → (g : A) × (get_elem? b j ≡ some g) × (test g ≡ true))
          → (k : ℕ)
          → turn t o ≡ some k
          → (g : A) × (get_elem? (f ∷ b) k ≡ some g) × (test g ≡ true)
      go true p o ih zero e = (f, refl, p)
      go true p o ih (suc k) e = absurd (let z : ◌≡◌ {A = ℕ} 0 (suc k) = some_injective e in omega arith)
      go false p none ih k e = absurd (none_some e)
      go false p (some j) ih zero e = absurd (let z : ◌≡◌ {A = ℕ} (suc j) 0 = some_injective e in omega arith)
      go false p (some j) ih (suc k) e = ih k (ap some (let z : ◌≡◌ {A = ℕ} (suc j) (suc k) = some_injective e in omega arith))

  -- no lower one passes
  pub lowest_least : (b : List A) (k : ℕ) → lowest test b ≡ some k → (j : ℕ) → j < k → (f : A) → get_elem? b j ≡ some f → test f ≡ false
  unfolding lowest
  lowest_least [] k e j h f g = absurd (none_some e)
  lowest_least (x ∷ b) k e j h f g = go (test x) refl (lowest test b) (lowest_least b) k e j h g
    where
      go : (t : Bool)
          → test x ≡ t
          → (o : Option ℕ)
          → ((k : ℕ) → o ≡ some k → (j : ℕ) → j < k → (f : A) → get_elem? b j ≡ some f → test f ≡ false)
          → (k : ℕ)
          → turn t o ≡ some k
          → (j : ℕ) → j < k → get_elem? (x ∷ b) j ≡ some f → test f ≡ false
      go true p o ih k e j h g = absurd (let z : ◌≡◌ {A = ℕ} 0 k = some_injective e in omega arith)
      go false p none ih k e j h g = absurd (none_some e)
      go false p (some i) ih k e zero h g = ap test (let z : f ≡ x = cc in z) ∙ p
      go false p (some i) ih k e (suc j) h g = ih i refl j (let z : ◌≡◌ {A = ℕ} (suc i) k = some_injective e in omega arith) f g

  -- further elements change nothing where there is one
  pub lowest_kept : (b c : List A) (k : ℕ) → lowest test b ≡ some k → lowest test (b ++ c) ≡ some k
  unfolding lowest
  lowest_kept [] c k e = absurd (none_some e)
  lowest_kept (f ∷ b) c k e = go (test f) (lowest test b) (lowest_kept b c) e
    where
      go : (t : Bool) (o : Option ℕ)
          → ((j : ℕ) → o ≡ some j → lowest test (b ++ c) ≡ some j)
          → turn t o ≡ some k
          → turn t (lowest test (b ++ c)) ≡ some k
      go true o ih e = e
      go false none ih e = absurd (none_some e)
      go false (some j) ih e = ap (turn false) (ih j refl) ∙ e

  pub lowest_taken : (b : List A) (m k : ℕ) → lowest test (take m b) ≡ some k → lowest test b ≡ some k
  lowest_taken b m k e = subst (λ c. lowest test c ≡ some k) (take-append-drop m b) (lowest_kept (take m b) (drop m b) k e)

  -- where there is none, those after count
  pub lowest_behind : (b : List A) (f : A) → lowest test b ≡ none → test f ≡ false → lowest test (b ++ (f ∷ [])) ≡ none
  unfolding lowest
  lowest_behind [] f e p = ap (λ t. turn t none) p
  lowest_behind (x ∷ b) f e p = go (test x) (lowest test b) (λ q. lowest_behind b f q p) e
    where
      go : (t : Bool) (o : Option ℕ) → (o ≡ none → lowest test (b ++ (f ∷ [])) ≡ none) → turn t o ≡ none → turn t (lowest test (b ++ (f ∷ []))) ≡ none
      go true o ih e = absurd (some_none e)
      go false none ih e = ap (turn false) (ih refl)
      go false (some j) ih e = absurd (some_none e)

  pub lowest_next : (b : List A) (f : A) → lowest test b ≡ none → test f ≡ true → lowest test (b ++ (f ∷ [])) ≡ some (length b)
  unfolding lowest
  lowest_next [] f e p = ap (λ t. turn t none) p
  lowest_next (x ∷ b) f e p = go (test x) (lowest test b) (λ q. lowest_next b f q p) e
    where
      go : (t : Bool) (o : Option ℕ)
          → (o ≡ none → lowest test (b ++ (f ∷ [])) ≡ some (length b))
          → turn t o ≡ none
          → turn t (lowest test (b ++ (f ∷ []))) ≡ some (suc (length b))
      go true o ih e = absurd (some_none e)
      go false none ih e = ap (turn false) (ih refl)
      go false (some j) ih e = absurd (some_none e)

-- ---- the first element without a property

-- none, or one after others that have it
abbrev pub FirstWithout : {A : Type 0} → (A → Type 0) → List A → Option ℕ → Type 0
FirstWithout {A} P b none = All P b
FirstWithout {A} P b (some k) = (f : A) × (get_elem? b k ≡ some f) × (P f → ⊥) × All P (take k b)

module _ {A : Type 0} (P : A → Type 0) where
  -- it is the lowest that passes a test for elements without the property
  pub lowest_first : (test : A → Bool) → ((f : A) → test f ≡ true → P f → ⊥) → ((f : A) → test f ≡ false → P f)
      → (b : List A) → FirstWithout P b (lowest test b)
  unfolding lowest
  lowest_first test without has [] = tt
  lowest_first test without has (f ∷ b) = go (test f) refl (lowest test b) (lowest_first test without has b)
    where
      go : (t : Bool) → test f ≡ t → (o : Option ℕ) → FirstWithout P b o → FirstWithout P (f ∷ b) (turn test t o)
      go true e o h = (f, refl, without f e, tt)
      go false e none h = (has f e, h)
      go false e (some k) (g, at, no-g, before) = (g, at, no-g, (has f e, before))

  -- there is one only
  pub first_unique : (b : List A) (o i : Option ℕ) → FirstWithout P b o → FirstWithout P b i → o ≡ i
  first_unique b none none h g = refl
  first_unique b none (some k) h (f, at, no-f, before) = absurd (no-f (all_at P b k h at))
  first_unique b (some k) none (f, at, no-f, before) h = absurd (no-f (all_at P b k h at))
  first_unique [] (some k) (some j) (f, at, no-f, before) h = absurd (none_some at)
  first_unique (x ∷ b) (some zero) (some zero) h g = refl
  first_unique (x ∷ b) (some zero) (some (suc j)) (f, at, no-f, before) (g, there, no-g, (p, ps)) = absurd (no-f (subst P (some_injective at) p))
  first_unique (x ∷ b) (some (suc k)) (some zero) (f, at, no-f, (p, ps)) (g, there, no-g, before) = absurd (no-g (subst P (some_injective there) p))
  first_unique (x ∷ b) (some (suc k)) (some (suc j)) (f, at, no-f, (p, ps)) (g, there, no-g, (q, qs)) =
      let e = first_unique b (some k) (some j) (f, at, no-f, ps) (g, there, no-g, qs) in ap (λ i. some (suc i)) (some_injective e)
