-- A test of every element of a list, as a loop from the front takes it (none is left, the next one fails, the next one passes), also where the list is read
-- place by place; of parts of the list, of what a function makes of another one, and of some element.
use Prim.Native.Nat.{ℕ, zero, suc, ◌+◌, ◌-◌, ◌<◌, ◌≤◌}
use native.Mathlib.Omega.{arith}
use native.Mathlib.Numerals.{add-one}
use mathlib.Core.Path.{◌≡◌, refl, sym, ◌∙◌, ap, ap₂}
use mathlib.Core.Bool.{Bool, true, false, ◌&&◌, ◌||◌, and-true, and_assoc, and-false, or-true, or-false, or_assoc}
use mathlib.Core.Option.{some}
use mathlib.Core.List.{List, [], ◌∷◌, ◌++◌, map}
use lib.ListN.{length, get_or, take, drop, get_elem?, drop_of_length-le}
use lib.Seq.{drop-cons}
use Rattle.lists.specs.Lists.{all, any, values_along}
use Rattle.lists.proofs.Tests.{→true, true→, and→}
use Rattle.lists.proofs.Options.{some_injective, none_some}
use Rattle.lists.proofs.Lists.{down}

pub take_zero : {A : Type 0} (l : List A) → take 0 l ≡ []
take_zero [] = refl
take_zero (x ∷ l) = refl

module _ {A : Type 0} (test : A → Bool) where
  pub every_done : (l : List A) (j : ℕ) → length l ≤ j → all test (drop j l) ≡ true
  every_done l j h = ap (all test) (drop_of_length-le l h)

  every_step : (l : List A) (j : ℕ) (d : A) → j < length l → all test (drop j l) ≡ (test (get_or l j d) && all test (drop (j + 1) l))
  every_step l j d h = ap (all test) (drop-cons l j d h) ∙ ap (λ (n : ℕ). test (get_or l j d) && all test (drop n l)) (sym (add-one j))

  pub every_fails : (l : List A) (j : ℕ) (d : A) → j < length l → test (get_or l j d) ≡ false → all test (drop j l) ≡ false
  every_fails l j d h e = every_step l j d h ∙ rw e

  pub every_on : (l : List A) (j : ℕ) (d : A) → j < length l → test (get_or l j d) ≡ true → all test (drop (j + 1) l) ≡ all test (drop j l)
  every_on l j d h e = sym (every_step l j d h ∙ rw e)

  -- two lists
  pub every_append : (l m : List A) → all test (l ++ m) ≡ (all test l && all test m)
  every_append [] m = refl
  every_append (x ∷ l) m = ap (λ t. test x && t) (every_append l m) ∙ sym (and_assoc (test x) (all test l) (all test m))

  -- one element more at the end
  pub every_snoc : (l : List A) (x : A) → all test (l ++ (x ∷ [])) ≡ (all test l && test x)
  every_snoc l x = every_append l (x ∷ []) ∙ ap (λ t. all test l && t) (and-true (test x))

  -- one element that fails
  pub every_broken : (l : List A) (k : ℕ) (x : A) → get_elem? l k ≡ some x → test x ≡ false → all test l ≡ false
  every_broken [] k x h e = absurd (none_some h)
  every_broken (y ∷ l) zero x h e = ap (λ t. t && all test l) (ap test (some_injective h) ∙ e)
  every_broken (y ∷ l) (suc k) x h e = ap (λ t. test y && t) (every_broken l k x h e) ∙ and-false (test y)

  -- the first elements
  pub every_take : (l : List A) (n : ℕ) → all test l ≡ true → all test (take n l) ≡ true
  every_take l zero e = ap (all test) (take_zero l)
  every_take [] (suc n) e = refl
  every_take (x ∷ l) (suc n) e =
      let (p, q) = and→ (test x) (all test l) (true→ e) in
      ap₂ ◌&&◌ (→true (test x) p) (every_take l n (→true (all test l) q))

  -- an element of a list that passes
  pub every_at : (l : List A) (k : ℕ) (x : A) → all test l ≡ true → get_elem? l k ≡ some x → test x ≡ true
  every_at [] k x e h = absurd (none_some h)
  every_at (y ∷ l) zero x e h = ap test (sym (some_injective h)) ∙ →true (test y) (and→ (test y) (all test l) (true→ e)).0
  every_at (y ∷ l) (suc k) x e h = every_at l k x (→true (all test l) (and→ (test y) (all test l) (true→ e)).1) h

  -- ---- a test of some element

  pub some_snoc : (l : List A) (x : A) → any test (l ++ (x ∷ [])) ≡ (any test l || test x)
  some_snoc [] x = or-false (test x)
  some_snoc (y ∷ l) x = ap (λ t. test y || t) (some_snoc l x) ∙ sym (or_assoc (test y) (any test l) (test x))

  pub some_at : (l : List A) (k : ℕ) (x : A) → get_elem? l k ≡ some x → test x ≡ true → any test l ≡ true
  some_at [] k x h e = absurd (none_some h)
  some_at (y ∷ l) zero x h e = ap (λ t. t || any test l) (ap test (some_injective h) ∙ e)
  some_at (y ∷ l) (suc k) x h e = ap (λ t. test y || t) (some_at l k x h e) ∙ or-true (test y)

-- ---- a test of what is read at each of k places

module _ {A B : Type 0} (test : B → Bool) (go : A → A) (f : A → B) (a : A) where
  pub along_done : (k : ℕ) → k ≤ 0 → all test (values_along go f a k) ≡ true
  along_done zero h = refl
  along_done (suc k) h = absurd (omega arith)

  pub along_one : (k : ℕ) → 0 < k → all test (values_along go f a k) ≡ (test (f a) && all test (values_along go f (go a) (k - 1)))
  along_one zero h = absurd (omega arith)
  along_one (suc k) h = rw (down k)

  pub along_fails : (k : ℕ) → 0 < k → test (f a) ≡ false → all test (values_along go f a k) ≡ false
  along_fails k h e = along_one k h ∙ rw e

  pub along_on : (k : ℕ) → 0 < k → test (f a) ≡ true → all test (values_along go f a k) ≡ all test (values_along go f (go a) (k - 1))
  along_on k h e = along_one k h ∙ rw e

-- ---- tests of what f makes

module _ {A B : Type 0} (f : A → B) where
  pub every_made : (t : B → Bool) (xs : List A) → all t (map f xs) ≡ all (λ x. t (f x)) xs
  every_made t [] = refl
  every_made t (x ∷ xs) = ap (λ a. t (f x) && a) (every_made t xs)

  -- two that say the same of it
  pub every_alike : (s t : B → Bool) → ((x : A) → s (f x) ≡ t (f x)) → (xs : List A) → all s (map f xs) ≡ all t (map f xs)
  every_alike s t h [] = refl
  every_alike s t h (x ∷ xs) = ap₂ ◌&&◌ (h x) (every_alike s t h xs)
