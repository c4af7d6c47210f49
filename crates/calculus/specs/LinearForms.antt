-- Forms: an integer form is a list, the constant first, then a coefficient for each of the 48 columns.
use Rattle.std.specs.Prelude.{ℕ, zero, suc, ◌-◌, Bool, true, false, List, [], ◌∷◌, ◌++◌, map, replicate, eqb, ℤ, pos, negsuc, neg_ℤ, ◌+ℤ◌, ◌*ℤ◌}
use Rattle.integers.specs.Division.{floor_div}
use Rattle.lists.specs.Lists.{all, eq_list}
use Rattle.calculus.specs.Limits.{column_limit}

abbrev pub plus : List ℤ → List ℤ → List ℤ
plus [] b = b
plus (x ∷ a) [] = x ∷ a
plus (x ∷ a) (y ∷ b) = (x +ℤ y) ∷ plus a b

abbrev pub scale : ℤ → List ℤ → List ℤ
scale k a = map (λ x. k *ℤ x) a

abbrev pub zeros : ℕ → List ℤ
zeros n = replicate n (pos 0)

-- the form that is the number k
abbrev pub number : ℤ → List ℤ
number k = k ∷ zeros column_limit

-- the form that is the column j
abbrev pub column : ℕ → List ℤ
column j = pos 0 ∷ (zeros j ++ (pos 1 ∷ zeros (column_limit - 1 - j)))

abbrev pub minus : List ℤ → List ℤ → List ℤ
minus a b = plus a (scale (negsuc 0) b)

-- e−k for a number k
abbrev pub less : List ℤ → ℕ → List ℤ
less [] k = neg_ℤ (pos k) ∷ []
less (c ∷ cs) k = (c +ℤ neg_ℤ (pos k)) ∷ cs

-- e−1: at least 0 where e is above 0
abbrev pub above : List ℤ → List ℤ
above e = plus e (number (negsuc 0))

-- −e−1: at least 0 where e is below 0
abbrev pub below : List ℤ → List ℤ
below e = plus (scale (negsuc 0) e) (number (negsuc 0))

abbrev pub is_zero : ℤ → Bool
is_zero (pos zero) = true
is_zero (pos (suc n)) = false
is_zero (negsuc n) = false

abbrev pub eqℤ : ℤ → ℤ → Bool
eqℤ (pos m) (pos n) = eqb m n
eqℤ (pos m) (negsuc n) = false
eqℤ (negsuc m) (pos n) = false
eqℤ (negsuc m) (negsuc n) = eqb m n

abbrev pub eq_integers : List ℤ → List ℤ → Bool
eq_integers a b = eq_list eqℤ a b

abbrev pub all_zero : List ℤ → Bool
all_zero a = all is_zero a

-- each number divided by d, rounding down
abbrev pub floor_div_all : List ℤ → ℕ → List ℤ
floor_div_all a d = map (λ x. floor_div x d) a

-- the sum of products
abbrev pub dot : List ℤ → List ℤ → ℤ
dot [] v = pos 0
dot (k ∷ ks) [] = pos 0
dot (k ∷ ks) (z ∷ v) = (k *ℤ z) +ℤ dot ks v

-- the value of a form where the columns have the values v
abbrev pub value_in : List ℤ → List ℤ → ℤ
value_in v e = dot e (pos 1 ∷ v)
