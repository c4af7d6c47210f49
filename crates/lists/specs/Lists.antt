-- Lists: every element has a property, or some element, is not among others, differs from the rest; tests of all or some elements, how many
-- pass, and the first that does; the greatest of numbers; lists read place by place.
use Rattle.std.specs.Prelude.{ℕ, zero, suc, ◌+◌, max, ◌≢◌, ◌⊎◌, Bool, true, false, cond, ◌&&◌, ◌||◌, List, [], ◌∷◌, ◌++◌}
use Rattle.std.proofs.Math.Option.{Option, none, some}

abbrev pub All : {A : Type 0} → (A → Type 0) → List A → Type 0
All P [] = Unit {0}
All P (x ∷ xs) = P x × All P xs

abbrev pub Any : {A : Type 0} → (A → Type 0) → List A → Type 0
Any P [] = ⊥
Any P (x ∷ xs) = P x ⊎ Any P xs

abbrev pub NotIn : {A : Type 0} → A → List A → Type 0
NotIn x ys = All (λ y. x ≢ y) ys

abbrev pub Distinct : {A : Type 0} → List A → Type 0
Distinct [] = Unit {0}
Distinct (x ∷ xs) = NotIn x xs × Distinct xs

-- ---- tests

-- every element passes the test; some element does
abbrev pub all : {A : Type 0} → (A → Bool) → List A → Bool
all t [] = true
all t (x ∷ xs) = t x && all t xs

abbrev pub any : {A : Type 0} → (A → Bool) → List A → Bool
any t [] = false
any t (x ∷ xs) = t x || any t xs

-- how many elements pass the test
unfoldable pub count : {A : Type 0} → (A → Bool) → List A → ℕ
count t [] = 0
count t (x ∷ xs) = cond (t x) 1 0 + count t xs

-- the place of the first element that passes the test
unfoldable pub lowest : {A : Type 0} → (A → Bool) → List A → Option ℕ
lowest t [] = none
lowest t (x ∷ xs) = elim (t x) [ true ↦ some 0 | false ↦ elim (lowest t xs) [ none ↦ none | some k ↦ some (suc k) ] ]

-- two lists are equal, by a test of two elements
abbrev pub eq_list : {A : Type 0} → (A → A → Bool) → List A → List A → Bool
eq_list t [] [] = true
eq_list t [] (y ∷ ys) = false
eq_list t (x ∷ xs) [] = false
eq_list t (x ∷ xs) (y ∷ ys) = t x y && eq_list t xs ys

-- every number below k passes the test; some number does
abbrev pub all_below : ℕ → (ℕ → Bool) → Bool
all_below zero t = true
all_below (suc k) t = t k && all_below k t

abbrev pub any_below : ℕ → (ℕ → Bool) → Bool
any_below zero t = false
any_below (suc k) t = t k || any_below k t

-- ---- numbers

-- the greatest of them, 0 where there is none
abbrev pub maximum : List ℕ → ℕ
maximum [] = 0
maximum (x ∷ xs) = max x (maximum xs)

-- ---- place by place

-- what f gives of each number below k, in order
abbrev pub up_to : {A : Type 0} → (ℕ → A) → ℕ → List A
up_to f zero = []
up_to f (suc k) = up_to f k ++ (f k ∷ [])

-- the place after k others, the first of which is a: go leads from each to the next
abbrev pub place_after : {A : Type 0} → (A → A) → A → ℕ → A
place_after go a zero = a
place_after go a (suc k) = place_after go (go a) k

-- what f gives at each of k places from a on
abbrev pub values_along : {A B : Type 0} → (A → A) → (A → B) → A → ℕ → List B
values_along go f a zero = []
values_along go f a (suc k) = f a ∷ values_along go f (go a) k
