-- A list that a loop fills or changes from the front, and a part in the middle of a list.
use Prim.Native.Nat.{ℕ, zero, suc, ◌+◌, ◌<◌, ◌≤◌}
use native.Mathlib.Numerals.{add-one}
use native.Mathlib.Nat.{zero-add, add-zero}
use native.Mathlib.Omega.{arith}
use mathlib.Core.Path.{◌≡◌, refl, sym, ◌∙◌, ap}
use mathlib.Core.List.{List, [], ◌∷◌, ◌++◌, map}
use lib.ListN.{length, get_or, take, drop, set, length-map, length-set}
use lib.Seq.{take-nil, take-suc, take-suc-set, take_all, drop-set-lt, drop-drop, get_or-drop}
use Rattle.lists.proofs.Lists.{get_d_map}

module _ {A : Type 0} where
  pub filled_more : (l t : List A) (j : ℕ) (x d : A) → j < length l → j < length t → take j l ≡ take j t → x ≡ get_or t j d
      → take (j + 1) (set l j x) ≡ take (j + 1) t
  filled_more l t j x d h k e f = rw (add-one, take-suc-set l j x h, take-suc t j d k, e, f)

  pub filled_all : (l t : List A) (j : ℕ) → length l ≤ j → length t ≤ j → take j l ≡ take j t → l ≡ t
  filled_all l t j h k e = sym (take_all j l h) ∙ e ∙ take_all j t k

  -- a list that a loop changes in place, from the front: what is left is as it was
  pub kept_more : (l k : List A) (j : ℕ) (x : A) → drop j l ≡ drop j k → drop (j + 1) (set l j x) ≡ drop (j + 1) k
  kept_more l k j x e =
      drop-set-lt (j + 1) l j x (omega arith) ∙ sym (drop-drop 1 j l) ∙ ap (λ (m : List A). drop 1 m) e ∙ drop-drop 1 j k

  pub kept_at : (l k : List A) (j : ℕ) (d : A) → drop j l ≡ drop j k → get_or l j d ≡ get_or k j d
  kept_at l k j d e =
      ap (λ (i : ℕ). get_or l i d) (sym (add-zero j))
      ∙ sym (get_or-drop j l 0 d)
      ∙ ap (λ (m : List A). get_or m 0 d) e
      ∙ get_or-drop j k 0 d
      ∙ ap (λ (i : ℕ). get_or k i d) (add-zero j)

  pub drop_take : (n m : ℕ) (l : List A) → drop n (take (n + m) l) ≡ take m (drop n l)
  drop_take zero m l = rw (zero-add m)
  drop_take (suc n) m [] = rw (take-nil {A = A} (suc n + m), take-nil {A = A} m)
  drop_take (suc n) m (x ∷ xs) = ap (λ (k : ℕ). drop (suc n) (take k (x ∷ xs))) e ∙ drop_take n m xs
    where
      e : suc n + m ≡ suc (n + m)
      e = omega arith

-- ---- a list whose elements from place k on are changed in place

module _ {A : Type 0} where
  abbrev pub changed_from : ℕ → (A → A) → List A → List A
  changed_from k f l = take k l ++ map f (drop k l)

  changed_front : (k : ℕ) (f : A → A) (l : List A) → take k l ≡ take k (changed_from k f l)
  changed_front zero f l = refl
  changed_front (suc k) f [] = refl
  changed_front (suc k) f (x ∷ l) = ap (λ (m : List A). x ∷ m) (changed_front k f l)

  length_changed : (k : ℕ) (f : A → A) (l : List A) → length (changed_from k f l) ≡ length l
  length_changed zero f l = length-map l f
  length_changed (suc k) f [] = refl
  length_changed (suc k) f (x ∷ l) = ap suc (length_changed k f l)

  changed_at : (k : ℕ) (f : A → A) (l : List A) (j : ℕ) (d : A) → k ≤ j → j < length l → get_or (changed_from k f l) j d ≡ f (get_or l j d)
  changed_at zero f l j d h g = get_d_map f l j d d g
  changed_at (suc k) f l zero d h g = absurd (omega arith)
  changed_at (suc k) f [] (suc j) d h g = absurd (omega arith)
  changed_at (suc k) f (x ∷ l) (suc j) d h g = changed_at k f l j d (omega arith) (omega arith)

  -- those before place j are done, and the others are as they were
  abbrev pub Changing : ℕ → (A → A) → List A → List A → ℕ → Type 0
  Changing k f l₀ l j = (k ≤ j) × (j ≤ length l₀) × (length l ≡ length l₀) × (take j l ≡ take j (changed_from k f l₀)) × (drop j l ≡ drop j l₀)

  module _ (k : ℕ) (f : A → A) (l₀ : List A) where
    pub changing_first : k ≤ length l₀ → Changing k f l₀ l₀ k
    changing_first h = (omega arith, h, refl, changed_front k f l₀, refl)

    module _ (l : List A) (j : ℕ) (i : Changing k f l₀ l j) where
      pub changing_more : (x d : A) → j < length l₀ → x ≡ f (get_or l j d) → Changing k f l₀ (set l j x) (j + 1)
      changing_more x d h e =
          let (from, to, same, done, left) = i in
          let n = length_changed k f l₀ in (
            omega arith,
            omega arith,
            length-set l j x ∙ same,
            filled_more l (changed_from k f l₀) j x d (omega arith) (omega arith) done
                (e ∙ ap f (kept_at l l₀ j d left) ∙ sym (changed_at k f l₀ j d from h)),
            kept_more l l₀ j x left,
          )

      pub changing_done : length l₀ ≤ j → l ≡ changed_from k f l₀
      changing_done h =
          let (from, to, same, done, left) = i in
          let n = length_changed k f l₀ in
          filled_all l (changed_from k f l₀) j (omega arith) (omega arith) done
