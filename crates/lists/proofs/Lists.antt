-- Lists: properties of all elements and of some element, membership, lists without repeats, counting, and lists read place by place.
use Prim.Native.Nat.{ℕ, zero, suc, ◌+◌, ◌*◌, ◌-◌, ◌<◌, ◌≤◌}
use native.Mathlib.Nat.{zero-add, mul-suc}
use native.Mathlib.Numerals.{add-one}
use native.Mathlib.Omega.{arith}
use mathlib.Core.Path.{◌≡◌, refl, sym, ◌∙◌, ap, ap₂, subst}
use mathlib.Core.Logic.{◌≢◌, ◌⊎◌, inl, inr}
use mathlib.Core.Bool.{Bool, true, false, cond, ◌&&◌, ◌||◌, and-false}
use mathlib.Core.Option
use mathlib.Core.Option.{none, some}
use mathlib.Core.List.{List, [], ◌∷◌, ◌++◌, map, flat_map, append-nil, append_assoc}
use lib.ListN.{length, get_or, take, drop, get_elem?, replicate, length-append, drop_of_length-le, take-append-drop}
use lib.Seq.{drop-cons, take-append_seam}
use lib.Dec.{T, leb}
use borrow.Author.Tests.{le-leb}
use native.Mathlib.Decide.{dec_lt}
use Rattle.lists.specs.Lists.{All, NotIn, Distinct, all, any, count, eq_list, place_after, values_along, Any, up_to}
use Rattle.lists.proofs.Tests.{→true, true→, and→, →and, or→, →or_left, →or_right}
use Rattle.lists.proofs.Options.{some_injective, none_some}

-- ---- all elements

pub all_map : {A : Type 0} {P Q : A → Type 0} (xs : List A) → ((x : A) → P x → Q x) → All P xs → All Q xs
all_map [] f h = tt
all_map (x ∷ xs) f (h, hs) = (f x h, all_map xs f hs)

pub all_append : {A : Type 0} (P : A → Type 0) (xs ys : List A) → All P xs → All P ys → All P (xs ++ ys)
all_append P [] ys h g = g
all_append P (x ∷ xs) ys (h, hs) g = (h, all_append P xs ys hs g)

pub all_both : {A : Type 0} (P Q : A → Type 0) (xs : List A) → All P xs → All Q xs → All (λ x. P x × Q x) xs
all_both P Q [] h k = tt
all_both P Q (x ∷ xs) (h, hs) (k, ks) = ((h, k), all_both P Q xs hs ks)

pub all_left : {A : Type 0} (P : A → Type 0) (xs ys : List A) → All P (xs ++ ys) → All P xs
all_left P [] ys h = tt
all_left P (x ∷ xs) ys (h, hs) = (h, all_left P xs ys hs)

pub all_right : {A : Type 0} (P : A → Type 0) (xs ys : List A) → All P (xs ++ ys) → All P ys
all_right P [] ys h = h
all_right P (x ∷ xs) ys (h, hs) = all_right P xs ys hs

pub all_at : {A : Type 0} (P : A → Type 0) (xs : List A) (k : ℕ) {x : A} → All P xs → get_elem? xs k ≡ some x → P x
all_at P [] k h e = absurd (none_some e)
all_at P (y ∷ xs) zero h e = subst P (some_injective e) h.0
all_at P (y ∷ xs) (suc k) h e = all_at P xs k h.1 e

pub all_replicate : {A : Type 0} (P : A → Type 0) (n : ℕ) (x : A) → P x → All P (replicate n x)
all_replicate P zero x h = tt
all_replicate P (suc n) x h = (h, all_replicate P n x h)

-- ---- tests of all and of some elements

module _ {A : Type 0} {P : A → Type 0} (t : A → Bool) where
  pub all→ : (xs : List A) → ((x : A) → T (t x) → P x) → T (all t xs) → All P xs
  all→ [] f h = tt
  all→ (x ∷ xs) f h = let (p, q) = and→ (t x) (all t xs) h in (f x p, all→ xs f q)

  pub →all : (xs : List A) → ((x : A) → P x → T (t x)) → All P xs → T (all t xs)
  →all [] f h = tt
  →all (x ∷ xs) f (h, hs) = →and (t x) (all t xs) (f x h) (→all xs f hs)

  pub any→ : (xs : List A) → ((x : A) → T (t x) → P x) → T (any t xs) → Any P xs
  any→ [] f h = absurd h
  any→ (x ∷ xs) f h = go (or→ (t x) (any t xs) h) (any→ xs f)
    where
      go : T (t x) ⊎ T (any t xs) → (T (any t xs) → Any P xs) → P x ⊎ Any P xs
      go (inl s) ih = inl (f x s)
      go (inr s) ih = inr (ih s)

  pub →any : (xs : List A) → ((x : A) → P x → T (t x)) → Any P xs → T (any t xs)
  →any [] f h = h
  →any (x ∷ xs) f (inl h) = →or_left (t x) (any t xs) (f x h)
  →any (x ∷ xs) f (inr h) = →or_right (t x) (any t xs) (→any xs f h)

  -- the same of tests as equations
  pub all_true→ : (xs : List A) → ((x : A) → t x ≡ true → P x) → all t xs ≡ true → All P xs
  all_true→ xs f e = all→ xs (λ x h. f x (→true (t x) h)) (true→ e)

  pub →all_true : (xs : List A) → ((x : A) → P x → t x ≡ true) → All P xs → all t xs ≡ true
  →all_true xs f h = →true (all t xs) (→all xs (λ x p. true→ (f x p)) h)

-- ---- how many elements pass a test

module _ {A : Type 0} (t : A → Bool) where
  pub count_append : (xs ys : List A) → count t (xs ++ ys) ≡ count t xs + count t ys
  unfolding count
  count_append [] ys = omega arith
  count_append (x ∷ xs) ys = rw (count_append xs ys) (omega arith)

  -- one element more at the end
  pub count_snoc : (xs : List A) (x : A) → count t (xs ++ (x ∷ [])) ≡ count t xs + cond (t x) 1 0
  unfolding count
  count_snoc xs x = rw (count_append xs (x ∷ [])) (omega arith)

  -- at least one where some element does
  pub any_counted : (xs : List A) → leb 1 (count t xs) ≡ any t xs
  unfolding count
  any_counted [] = refl
  any_counted (x ∷ xs) = go (t x) (any_counted xs)
    where
      go : (a : Bool) → leb 1 (count t xs) ≡ any t xs → leb 1 (cond a 1 0 + count t xs) ≡ (a || any t xs)
      go true h = le-leb 1 (1 + count t xs) (omega arith)
      go false h = rw zero-add h

  -- none of what f makes
  pub count_mapped_none : {B : Type 0} (f : B → A) → ((x : B) → t (f x) ≡ false) → (xs : List B) → count t (map f xs) ≡ 0
  unfolding count
  count_mapped_none f h [] = refl
  count_mapped_none f h (x ∷ xs) = ap₂ (λ a n. cond a 1 0 + n) (h x) (count_mapped_none f h xs)

-- ---- equality by a test

module _ {A : Type 0} (t : A → A → Bool) where
  pub eq_list→ : ((x y : A) → T (t x y) → x ≡ y) → (xs ys : List A) → T (eq_list t xs ys) → xs ≡ ys
  eq_list→ f [] [] h = refl
  eq_list→ f [] (y ∷ ys) h = absurd h
  eq_list→ f (x ∷ xs) [] h = absurd h
  eq_list→ f (x ∷ xs) (y ∷ ys) h = let (p, q) = and→ (t x y) (eq_list t xs ys) h in ap₂ ◌∷◌ (f x y p) (eq_list→ f xs ys q)

  pub eq_list_refl : ((x : A) → T (t x x)) → (xs : List A) → T (eq_list t xs xs)
  eq_list_refl f [] = tt
  eq_list_refl f (x ∷ xs) = →and (t x x) (eq_list t xs xs) (f x) (eq_list_refl f xs)

  -- from place j on
  pub eq_list_step : (xs ys : List A) (j : ℕ) (d : A) → j < length xs → j < length ys
      → eq_list t (drop j xs) (drop j ys) ≡ (t (get_or xs j d) (get_or ys j d) && eq_list t (drop (j + 1) xs) (drop (j + 1) ys))
  eq_list_step xs ys j d h k = rw (drop-cons xs j d h, drop-cons ys j d k, add-one)

  pub eq_list_done : (xs ys : List A) (j : ℕ) → length xs ≤ j → length ys ≤ j → eq_list t (drop j xs) (drop j ys) ≡ true
  eq_list_done xs ys j h k = rw (drop_of_length-le xs h, drop_of_length-le ys k)

  -- lists of different lengths differ
  pub eq_list_lengths : (xs ys : List A) → (length xs ≡ length ys → ⊥) → eq_list t xs ys ≡ false
  eq_list_lengths [] [] h = absurd (h refl)
  eq_list_lengths [] (y ∷ ys) h = refl
  eq_list_lengths (x ∷ xs) [] h = refl
  eq_list_lengths (x ∷ xs) (y ∷ ys) h = ap (λ (a : Bool). t x y && a) (eq_list_lengths xs ys (λ e. h (ap suc e))) ∙ and-false (t x y)

-- ---- membership

abbrev pub In : {A : Type 0} → A → List A → Type 0
In x ys = Any (λ y. x ≡ y) ys

pub in_map : {A B : Type 0} (f : A → B) (x : A) (xs : List A) → In x xs → In (f x) (map f xs)
in_map f x [] h = h
in_map f x (y ∷ ys) (inl e) = inl (ap f e)
in_map f x (y ∷ ys) (inr h) = inr (in_map f x ys h)

pub in_append : {A : Type 0} (x : A) (xs ys : List A) → In x (xs ++ ys) → In x xs ⊎ In x ys
in_append x [] ys h = inr h
in_append x (z ∷ xs) ys (inl e) = inl (inl e)
in_append x (z ∷ xs) ys (inr h) = go (in_append x xs ys h)
  where
    go : In x xs ⊎ In x ys → In x (z ∷ xs) ⊎ In x ys
    go (inl k) = inl (inr k)
    go (inr k) = inr k

pub in_left : {A : Type 0} (x : A) (xs ys : List A) → In x xs → In x (xs ++ ys)
in_left x [] ys h = absurd h
in_left x (z ∷ xs) ys (inl e) = inl e
in_left x (z ∷ xs) ys (inr h) = inr (in_left x xs ys h)

pub in_right : {A : Type 0} (x : A) (xs ys : List A) → In x ys → In x (xs ++ ys)
in_right x [] ys h = h
in_right x (z ∷ xs) ys h = inr (in_right x xs ys h)

pub in_at : {A : Type 0} (x : A) (xs : List A) → In x xs → (k : ℕ) × (get_elem? xs k ≡ some x)
in_at x [] h = absurd h
in_at x (y ∷ ys) (inl e) = (0, ap some (sym e))
in_at x (y ∷ ys) (inr h) = let (k, e) = in_at x ys h in (suc k, e)

pub all_in : {A : Type 0} (P : A → Type 0) (xs : List A) (x : A) → All P xs → In x xs → P x
all_in P [] x h i = absurd i
all_in P (y ∷ xs) x h (inl e) = subst P (sym e) h.0
all_in P (y ∷ xs) x h (inr i) = all_in P xs x h.1 i

-- ---- lists without repeats

pub not_in→ : {A : Type 0} (x y : A) (xs : List A) → NotIn x xs → In y xs → x ≢ y
not_in→ x y [] d h = absurd h
not_in→ x y (z ∷ xs) d (inl e) = λ p. d.0 (p ∙ e)
not_in→ x y (z ∷ xs) d (inr h) = not_in→ x y xs d.1 h

-- an element in the middle is not among those before it
pub in_middle : {A : Type 0} (xs : List A) (y : A) (ys : List A) → Distinct (xs ++ (y ∷ ys)) → In y xs → ⊥
in_middle [] y ys d i = i
in_middle (x ∷ xs) y ys d (inl e) = not_in→ x y (xs ++ (y ∷ ys)) d.0 (in_right y xs (y ∷ ys) (inl refl)) (sym e)
in_middle (x ∷ xs) y ys d (inr i) = in_middle xs y ys d.1 i

pub →not_in : {A : Type 0} (x : A) (xs : List A) → (In x xs → ⊥) → NotIn x xs
→not_in x [] f = tt
→not_in x (y ∷ ys) f = ((λ e. f (inl e)), →not_in x ys (λ i. f (inr i)))

not_in_at : {A : Type 0} (x d : A) (xs : List A) (i : ℕ) → NotIn x xs → i < length xs → x ≢ get_or xs i d
not_in_at x d [] i h g = absurd (omega arith)
not_in_at x d (y ∷ ys) zero h g = h.0
not_in_at x d (y ∷ ys) (suc i) h g = not_in_at x d ys i h.1 (omega arith)

pub distinct_at : {A : Type 0} (d : A) (xs : List A) (i j : ℕ) → Distinct xs → i < length xs → j < length xs → i ≢ j → get_or xs i d ≢ get_or xs j d
distinct_at d [] i j h g k n = absurd (omega arith)
distinct_at d (x ∷ xs) zero zero h g k n = absurd (n refl)
distinct_at d (x ∷ xs) zero (suc j) h g k n = not_in_at x d xs j h.0 (omega arith)
distinct_at d (x ∷ xs) (suc i) zero h g k n = λ e. not_in_at x d xs i h.0 (omega arith) (sym e)
distinct_at d (x ∷ xs) (suc i) (suc j) h g k n = distinct_at d xs i j h.1 (omega arith) (omega arith) (λ e. n (ap suc e))

not_in_snoc : {A : Type 0} (x y : A) (xs : List A) → NotIn x xs → x ≢ y → NotIn x (xs ++ (y ∷ []))
not_in_snoc x y [] h n = (n, tt)
not_in_snoc x y (z ∷ xs) (h, hs) n = (h, not_in_snoc x y xs hs n)

pub distinct_snoc : {A : Type 0} (y : A) (xs : List A) → Distinct xs → (In y xs → ⊥) → Distinct (xs ++ (y ∷ []))
distinct_snoc y [] d f = (tt, tt)
distinct_snoc y (x ∷ xs) (d, ds) f = (not_in_snoc x y xs d (λ e. f (inl (sym e))), distinct_snoc y xs ds (λ i. f (inr i)))

-- ---- counting

-- the list without one of its elements
pub without : {A : Type 0} (x : A) (ys : List A) → In x ys → List A
without x [] i = absurd i
without x (y ∷ ys) (inl e) = ys
without x (y ∷ ys) (inr i) = y ∷ without x ys i

pub length_without : {A : Type 0} (x : A) (ys : List A) (i : In x ys) → length ys ≡ suc (length (without x ys i))
unfolding without
length_without x [] i = absurd i
length_without x (y ∷ ys) (inl e) = refl
length_without x (y ∷ ys) (inr i) = ap suc (length_without x ys i)

pub in_without : {A : Type 0} (x z : A) (ys : List A) (i : In x ys) → z ≢ x → In z ys → In z (without x ys i)
unfolding without
in_without x z [] i n j = absurd i
in_without x z (y ∷ ys) (inl e) n (inl f) = absurd (n (f ∙ sym e))
in_without x z (y ∷ ys) (inl e) n (inr j) = j
in_without x z (y ∷ ys) (inr i) n (inl f) = inl f
in_without x z (y ∷ ys) (inr i) n (inr j) = inr (in_without x z ys i n j)

-- a list without repeats whose every element is in another is no longer than it
pub at_most : {A : Type 0} (xs ys : List A) → Distinct xs → ((x : A) → In x xs → In x ys) → length xs ≤ length ys
at_most [] ys d h = omega arith
at_most (x ∷ xs) ys d h =
    let i : In x ys = h x (inl refl) in
    let f : length xs ≤ length (without x ys i) =
    at_most xs (without x ys i) d.1 (λ z j. in_without x z ys i (λ e. not_in→ x z xs d.0 j (sym e)) (h z (inr j))) in
    let g : length ys ≡ suc (length (without x ys i)) = length_without x ys i in
    omega arith

-- ---- maps and positions

pub map_same : {A : Type 0} (f : A → A) (xs : List A) → All (λ x. f x ≡ x) xs → map f xs ≡ xs
map_same f [] h = refl
map_same f (x ∷ xs) (h, hs) = ap₂ ◌∷◌ h (map_same f xs hs)

pub all_mapped : {A B : Type 0} (P : B → Type 0) (f : A → B) (xs : List A) → All P (map f xs) ≡ All (λ x. P (f x)) xs
all_mapped P f [] = refl
all_mapped P f (x ∷ xs) = ap (λ X. P (f x) × X) (all_mapped P f xs)

pub any_mapped : {A B : Type 0} (P : B → Type 0) (f : A → B) (xs : List A) → Any P (map f xs) ≡ Any (λ x. P (f x)) xs
any_mapped P f [] = refl
any_mapped P f (x ∷ xs) = ap (λ X. P (f x) ⊎ X) (any_mapped P f xs)

pub map_take : {A B : Type 0} (f : A → B) (k : ℕ) (xs : List A) → map f (take k xs) ≡ take k (map f xs)
map_take f zero xs = refl
map_take f (suc k) [] = refl
map_take f (suc k) (x ∷ xs) = ap (λ ys. f x ∷ ys) (map_take f k xs)

-- the first elements, seen through a map, are first elements
pub map_split : {A B : Type 0} (g : A → B) (xs : List A) (f r : List B) → map g xs ≡ f ++ r → (h : List A) × (k : List A) × (xs ≡ h ++ k) × (map g h ≡ f)
map_split g xs f r e = (
  take (length f) xs,
  drop (length f) xs,
  sym (take-append-drop (length f) xs),
  map_take g (length f) xs ∙ ap (take (length f)) e ∙ take-append_seam f r,
)

-- an element that is there does not depend on the default
pub get_d_any : {A : Type 0} (l : List A) (i : ℕ) (d e : A) → i < length l → get_or l i d ≡ get_or l i e
get_d_any [] i d e h = absurd (omega arith)
get_d_any (x ∷ l) zero d e h = refl
get_d_any (x ∷ l) (suc i) d e h = get_d_any l i d e (omega arith)

-- an element within a list is there
pub element_within : {A : Type 0} (xs : List A) (k : ℕ) (d : A) → k < length xs → get_elem? xs k ≡ some (Option.get_or (get_elem? xs k) d)
element_within [] k d h = absurd (omega arith)
element_within (x ∷ xs) zero d h = refl
element_within (x ∷ xs) (suc k) d h = element_within xs k d (omega arith)

pub element_append : {A : Type 0} (xs ys : List A) (j : ℕ) → j < length xs → get_elem? (xs ++ ys) j ≡ get_elem? xs j
element_append [] ys j h = absurd (omega arith)
element_append (x ∷ xs) ys zero h = refl
element_append (x ∷ xs) ys (suc j) h = element_append xs ys j (omega arith)

pub element_last : {A : Type 0} (xs : List A) (y : A) → get_elem? (xs ++ (y ∷ [])) (length xs) ≡ some y
element_last [] y = refl
element_last (x ∷ xs) y = element_last xs y

pub element_none : {A : Type 0} (xs : List A) (j : ℕ) → length xs ≤ j → get_elem? xs j ≡ none
element_none [] j h = refl
element_none (x ∷ xs) zero h = absurd (omega arith)
element_none (x ∷ xs) (suc j) h = element_none xs j (omega arith)

pub element_map : {A B : Type 0} (f : A → B) (xs : List A) (k : ℕ) {x : A} → get_elem? xs k ≡ some x → get_elem? (map f xs) k ≡ some (f x)
element_map f [] k e = absurd (none_some e)
element_map f (y ∷ xs) zero e = ap (λ z. some (f z)) (some_injective e)
element_map f (y ∷ xs) (suc k) e = element_map f xs k e

pub get_d_map : {A B : Type 0} (f : A → B) (xs : List A) (i : ℕ) (d : A) (e : B) → i < length xs → get_or (map f xs) i e ≡ f (get_or xs i d)
get_d_map f [] i d e h = absurd (omega arith)
get_d_map f (x ∷ xs) zero d e h = refl
get_d_map f (x ∷ xs) (suc i) d e h = get_d_map f xs i d e (omega arith)

pub all_get_d : {A : Type 0} (P : A → Type 0) (xs : List A) (i : ℕ) (d : A) → P d → All P xs → P (get_or xs i d)
all_get_d P [] i d p h = p
all_get_d P (x ∷ xs) zero d p h = h.0
all_get_d P (x ∷ xs) (suc i) d p h = all_get_d P xs i d p h.1

pub get_d_all : {A : Type 0} (P : A → Type 0) (xs : List A) (d : A) → ((i : ℕ) → i < length xs → P (get_or xs i d)) → All P xs
get_d_all P [] d h = tt
get_d_all P (x ∷ xs) d h = (h 0 (omega arith), get_d_all P xs d (λ i g. h (suc i) (omega arith)))

-- ---- lists read place by place

-- one place fewer is left
pub down : (k : ℕ) → suc k - 1 ≡ k
down k = omega arith

pub place_after_suc : {A : Type 0} (go : A → A) (a : A) (k : ℕ) → place_after go a (suc k) ≡ go (place_after go a k)
place_after_suc go a zero = refl
place_after_suc go a (suc k) = place_after_suc go (go a) k

-- places a fixed width apart
pub place_after_by : (w a k : ℕ) → place_after (λ i. i + w) a k ≡ a + w * k
place_after_by w a zero = omega arith
place_after_by w a (suc k) = place_after_by w (a + w) k ∙ let e : w * suc k ≡ w * k + w = mul-suc w k in omega arith

module _ {A B : Type 0} (go : A → A) (f : A → B) where
  pub length_values_along : (a : A) (k : ℕ) → length (values_along go f a k) ≡ k
  length_values_along a zero = refl
  length_values_along a (suc k) = ap suc (length_values_along (go a) k)

  pub get_d_values_along : (a : A) (k j : ℕ) (d : B) → j < k → get_or (values_along go f a k) j d ≡ f (place_after go a j)
  get_d_values_along a zero j d h = absurd (omega arith)
  get_d_values_along a (suc k) zero d h = refl
  get_d_values_along a (suc k) (suc j) d h = get_d_values_along (go a) k j d (omega arith)

  pub element_values_along : (a : A) (k j : ℕ) {x : B} → get_elem? (values_along go f a k) j ≡ some x → (j < k) × (f (place_after go a j) ≡ x)
  element_values_along a zero j e = absurd (none_some e)
  element_values_along a (suc k) zero e = (omega arith, some_injective e)
  element_values_along a (suc k) (suc j) e = let (h, g) = element_values_along (go a) k j e in (omega arith, g)

  pub take_values_along : (a : A) (j k : ℕ) → j ≤ k → take j (values_along go f a k) ≡ values_along go f a j
  take_values_along a zero k h = refl
  take_values_along a (suc j) zero h = absurd (omega arith)
  take_values_along a (suc j) (suc k) h = ap (λ xs. f a ∷ xs) (take_values_along (go a) j k (omega arith))

  pub values_along_snoc : (a : A) (k : ℕ) → values_along go f a (suc k) ≡ values_along go f a k ++ (f (place_after go a k) ∷ [])
  values_along_snoc a zero = refl
  values_along_snoc a (suc k) = ap (λ xs. f a ∷ xs) (values_along_snoc (go a) k)

  pub values_along_add : (a : A) (j k : ℕ) → values_along go f a j ++ values_along go f (place_after go a j) k ≡ values_along go f a (j + k)
  values_along_add a zero k = ap (values_along go f a) (let z : k ≡ 0 + k = omega arith in z)
  values_along_add a (suc j) k =
      ap (λ xs. f a ∷ xs) (values_along_add (go a) j k) ∙ ap (values_along go f a) (let z : suc (j + k) ≡ suc j + k = omega arith in z)

  pub all_values_along : (P : B → Type 0) (a : A) (k : ℕ) → ((j : ℕ) → j < k → P (f (place_after go a j))) → All P (values_along go f a k)
  all_values_along P a zero h = tt
  all_values_along P a (suc k) h = (h 0 (omega arith), all_values_along P (go a) k (λ j l. h (suc j) (omega arith)))

  -- what h makes of each is what g gives at its place
  pub map_values_along : {C : Type 0} (h : B → C) (g : A → C) (a : A) (k : ℕ) → ((j : ℕ) → j < k → h (f (place_after go a j)) ≡ g (place_after go a j))
      → map h (values_along go f a k) ≡ values_along go g a k
  map_values_along h g a zero e = refl
  map_values_along h g a (suc k) e = ap₂ ◌∷◌ (e 0 (omega arith)) (map_values_along h g (go a) k (λ j l. e (suc j) (omega arith)))

-- ---- what is given of each element, one after another

module _ {A B : Type 0} (f : A → List B) where
  pub flat_map_append : (xs ys : List A) → flat_map f (xs ++ ys) ≡ flat_map f xs ++ flat_map f ys
  unfolding flat_map
  flat_map_append [] ys = refl
  flat_map_append (x ∷ xs) ys = ap (λ zs. f x ++ zs) (flat_map_append xs ys) ∙ sym (append_assoc (f x) (flat_map f xs) (flat_map f ys))

  pub flat_map_snoc : (xs : List A) (x : A) → flat_map f (xs ++ (x ∷ [])) ≡ flat_map f xs ++ f x
  unfolding flat_map
  flat_map_snoc xs x = flat_map_append xs (x ∷ []) ∙ ap (λ zs. flat_map f xs ++ zs) (append-nil (f x))

  -- as many of each
  pub length_flat_map : (w : ℕ) → ((x : A) → length (f x) ≡ w) → (xs : List A) → length (flat_map f xs) ≡ w * length xs
  unfolding flat_map
  length_flat_map w h [] = omega arith
  length_flat_map w h (x ∷ xs) =
      length-append (f x) (flat_map f xs) ∙ let e : w * suc (length xs) ≡ w * length xs + w = mul-suc w (length xs) in omega (arith, h x, length_flat_map w h xs)

-- ---- what is given of each number below k

pub element_get_d : {A : Type 0} (xs : List A) (j : ℕ) (x d : A) → get_elem? xs j ≡ some x → get_or xs j d ≡ x
element_get_d [] j x d e = absurd (none_some e)
element_get_d (y ∷ xs) zero x d e = some_injective e
element_get_d (y ∷ xs) (suc j) x d e = element_get_d xs j x d e

module _ {A : Type 0} (f : ℕ → A) where
  pub length_up_to : (k : ℕ) → length (up_to f k) ≡ k
  length_up_to zero = refl
  length_up_to (suc k) = length-append (up_to f k) (f k ∷ []) ∙ rw (length_up_to k) (add-one k)

  pub element_up_to : (k j : ℕ) → j < k → get_elem? (up_to f k) j ≡ some (f j)
  element_up_to zero j h = absurd (omega arith)
  element_up_to (suc k) j h = go (λ l. element_up_to k j l) (dec_lt j k)
    where
      go : (j < k → get_elem? (up_to f k) j ≡ some (f j)) → Dec (j < k) → get_elem? (up_to f (suc k)) j ≡ some (f j)
      go ih (yes l) = element_append (up_to f k) (f k ∷ []) j (rw (length_up_to k) l) ∙ ih l
      go ih (no n) =
          let e : k ≡ j = omega arith in
          ap (λ (i : ℕ). get_elem? (up_to f k ++ (f k ∷ [])) i) (sym (length_up_to k ∙ e)) ∙ element_last (up_to f k) (f k) ∙ ap (λ (i : ℕ). some (f i)) e

  pub get_d_up_to : (k j : ℕ) (d : A) → j < k → get_or (up_to f k) j d ≡ f j
  get_d_up_to k j d h = element_get_d (up_to f k) j (f j) d (element_up_to k j h)
