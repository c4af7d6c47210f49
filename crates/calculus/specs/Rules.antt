-- The children of a step on a branch, as checking computes them.
use Rattle.std.specs.Prelude.{ℕ, zero, suc, ◌^◌, Bool, true, false, cond, not, ◌&&◌, ◌||◌, List, [], ◌∷◌, length, leb, eqb, ℤ, pos, negsuc, ◌*ℤ◌}
use Rattle.std.proofs.Math.Option.{Option, none, some}
use Rattle.std.proofs.Math.ListN.{get_elem?}
use Rattle.std.specs.Int.Signed.{non_neg}
use Rattle.integers.specs.Division.{floor_div}
use Rattle.lists.specs.Lists.{all, any, lowest}
use Rattle.calculus.specs.Alphabet.{character_count}
use Rattle.calculus.specs.LinearForms.{plus, scale, minus, is_zero, eqℤ, eq_integers, all_zero, floor_div_all, column}
use Rattle.calculus.specs.Facts.{holds, Fact, Branch, Question, Relation, ge, eq, ne, same}
use Rattle.calculus.specs.Facts.{not_same, is_literal, arithmetic, len, code, column_of, Function}
use Rattle.calculus.specs.Chains.{var_node}
use Rattle.calculus.specs.Classes.{labels, same_class, class_literal, conflict}
use Rattle.calculus.specs.Children.{one, sum_child, branch_children, apart_children, s_prop_child, literal_child, l_valid_children}
use Rattle.calculus.specs.Children.{c_valid_children, c_inj_children, pair_children, bound_child, join_child}
use Rattle.calculus.specs.Steps.{Step, Sum, BranchOn, Apart, AConf, SConf, SProp, LIntro, LValid, CCollapse, CValid, CInj, Card, Join}

-- a where the test is passed
abbrev pub guard : {A : Type 0} → Bool → A → Option A
guard true a = some a
guard false a = none

-- what f gives of a, where there is one
abbrev pub then : {A B : Type 0} → Option A → (A → Option B) → Option B
then none f = none
then (some a) f = f a

-- a fact as a summand with multiplier m: "at least 1 on a ≥ fact, nonzero on an equation; ≠ facts and string facts do not fit"
abbrev pub summand : ℤ → Fact → Option (List ℤ)
summand m (same x y) = none
summand m (not_same x y) = none
summand m (is_literal x l) = none
summand m (arithmetic ge e) = guard (non_neg m && not (is_zero m)) (scale m e)
summand m (arithmetic eq e) = guard (not (is_zero m)) (scale m e)
summand m (arithmetic ne e) = none

abbrev pub sum_of : Branch → List (ℕ × ℤ) → Option (List ℤ)
sum_of b [] = some []
sum_of b (t ∷ ts) = then (get_elem? b t.0) (λ f. then (summand t.1 f) (λ e. then (sum_of b ts) (λ r. some (plus e r))))

-- "Column sums must divide exactly; the constant is divided rounding down"
abbrev pub divided : ℕ → List ℤ → Option (List ℤ)
divided d [] = none
divided d (c ∷ cs) = guard (leb 1 d && eq_integers (scale (pos d) (floor_div_all cs d)) cs) (floor_div c d ∷ floor_div_all cs d)

-- a fact, where there is one, is an equation
abbrev pub is_equation : Option Fact → Bool
is_equation none = false
is_equation (some (same x y)) = false
is_equation (some (not_same x y)) = false
is_equation (some (is_literal x l)) = false
is_equation (some (arithmetic ge e)) = false
is_equation (some (arithmetic eq e)) = true
is_equation (some (arithmetic ne e)) = false

-- of 02, L4: "every fact named by a Sum is an equation"
abbrev pub names_equation : Branch → ℕ × ℤ → Bool
names_equation b t = is_equation (get_elem? b t.0)

unfoldable pub all_equations : Branch → List (ℕ × ℤ) → Bool
all_equations b ts = all (names_equation b) ts

-- "the constant also divides exactly"
unfoldable pub divides_exactly : ℕ → List ℤ → Bool
divides_exactly d [] = false
divides_exactly d (c ∷ cs) = eqℤ (pos d *ℤ floor_div c d) c

-- the relation of the fact that a Sum adds, r being the sum before it is divided
abbrev pub sum_relation : Branch → ℕ → List (ℕ × ℤ) → List ℤ → Relation
sum_relation b d ts r = cond (all_equations b ts && divides_exactly d r) eq ge

-- Apart: "a fact e ≠ 0"
abbrev pub apart_of : Fact → Option (List (List Fact))
apart_of (same x y) = none
apart_of (not_same x y) = none
apart_of (is_literal x l) = none
apart_of (arithmetic ge e) = none
apart_of (arithmetic eq e) = none
apart_of (arithmetic ne e) = some (apart_children e)

-- A-Conf: "an arithmetic fact without coefficients and false"
abbrev pub is_false : Fact → Bool
is_false (same x y) = false
is_false (not_same x y) = false
is_false (is_literal x l) = false
is_false (arithmetic r []) = not (holds r (pos 0))
is_false (arithmetic r (c ∷ cs)) = all_zero cs && not (holds r c)

-- the form of a fact that Join takes; of 02, L4: "Join takes equations as well as ≥ facts"
abbrev pub join_form : Fact → Option (List ℤ)
join_form (same x y) = none
join_form (not_same x y) = none
join_form (is_literal x l) = none
join_form (arithmetic ge e) = some e
join_form (arithmetic eq e) = some e
join_form (arithmetic ne e) = none

-- Join: "one the negative of the other"
abbrev pub join_of : Fact → Fact → Option (List (List Fact))
join_of f g = then (join_form f) (λ e. then (join_form g) (λ h. guard (eq_integers (scale (negsuc 0) e) h) (join_child e)))

-- Card: a fact states that e = 0
abbrev pub states_zero : List ℤ → Fact → Bool
states_zero e (same x y) = false
states_zero e (not_same x y) = false
states_zero e (is_literal x l) = false
states_zero e (arithmetic ge g) = false
states_zero e (arithmetic eq g) = eq_integers e g
states_zero e (arithmetic ne g) = false

-- a fact states that the difference of the columns i and j is 0, "coefficients 1 and −1 in either order"
unfoldable pub states_difference : ℕ → ℕ → Fact → Bool
states_difference i j f = states_zero (minus (column i) (column j)) f || states_zero (minus (column j) (column i)) f

-- the lowest fact that states it
abbrev pub lowest_difference : Branch → ℕ → ℕ → Option ℕ
lowest_difference b i j = lowest (states_difference i j) b

-- a search found one
abbrev pub found : Option ℕ → Bool
found none = false
found (some k) = true

-- a fact of the branch states it
unfoldable pub states_equal : Branch → ℕ → ℕ → Bool
states_equal b i j = found (lowest_difference b i j)

-- "a fact states their lengths' difference = 0"
abbrev pub same_length : Question → Branch → ℕ → ℕ → Bool
same_length u b x y = states_equal b (column_of u len x) (column_of u len y)

-- "for each neighbouring pair"
abbrev pub neighbours : Question → Branch → ℕ → List ℕ → Bool
neighbours u b x [] = true
neighbours u b x (y ∷ ys) = same_length u b x y && neighbours u b y ys

abbrev pub among : ℕ → List ℕ → Bool
among x ys = any (eqb x) ys

abbrev pub distinct : List ℕ → Bool
distinct [] = true
distinct (x ∷ xs) = not (among x xs) && distinct xs

-- the smallest L from k on with n to the power L at least m, within fuel
abbrev pub least_power : ℕ → ℕ → ℕ → ℕ → ℕ
least_power zero n m k = k
least_power (suc d) n m k = elim (leb m (n ^ k)) [ true ↦ k | false ↦ least_power d n m (suc k) ]

-- "with L the smallest number such that n to the power L is at least m. With n = 1 the last child is left out"
abbrev pub last_child : Question → ℕ → ℕ → List (List Fact)
last_child u x m = elim (leb (character_count u.n) 1) [ true ↦ [] | false ↦ bound_child u x (least_power m (character_count u.n) m 0) ]

abbrev pub card_children : Question → Branch → List ℕ → Option (List (List Fact))
card_children u b [] = none
card_children u b (x ∷ []) = none
card_children u b (x ∷ y ∷ xs) =
    guard (distinct (x ∷ y ∷ xs) && neighbours u b x (y ∷ xs)) (pair_children (x ∷ y ∷ xs) (last_child u x (length (x ∷ y ∷ xs))))

-- L-Intro and C-Collapse, by their function
abbrev pub literal_children : Question → Branch → Function → ℕ → Option (List (List Fact))
literal_children u b f x = then (class_literal u b x) (λ l. some (literal_child u f x l))

-- a rule set: the children of each step on a branch; none where it does not fit; a closing rule has no child
abbrev pub RuleSet : Type 0
RuleSet = Question → Branch → Step → Option (List (List Fact))

-- document 01's rules, with Sum and Join as 02, L4, has them
abbrev pub children : RuleSet
children u b (Sum d ts) = then (sum_of b ts) (λ r. then (divided d r) (λ e. some (sum_child (sum_relation b d ts r) e)))
children u b (BranchOn e) = some (branch_children e)
children u b (Apart k) = then (get_elem? b k) apart_of
children u b (AConf k) = then (get_elem? b k) (λ f. guard (is_false f) [])
children u b SConf = guard (conflict u b) []
children u b (SProp f x y) = guard (not (eqb x y) && same_class (labels b) (var_node x) (var_node y)) (s_prop_child u f x y)
children u b (LIntro x) = literal_children u b len x
children u b (LValid x) = some (l_valid_children u x)
children u b (CCollapse x) = literal_children u b code x
children u b (CValid x) = some (c_valid_children u x)
children u b (CInj x y) = guard (not (eqb x y)) (c_inj_children u x y)
children u b (Card xs) = card_children u b xs
children u b (Join j k) = then (get_elem? b j) (λ f. then (get_elem? b k) (λ g. join_of f g))

-- ---- the rules before L4 of 02: those of now but for Sum and Join, which are as document 01 has them

-- "two ≥ facts, one the negative of the other"
abbrev pub join_before : Fact → Fact → Option (List (List Fact))
join_before (arithmetic ge e) (arithmetic ge g) = guard (eq_integers (scale (negsuc 0) e) g) (one (arithmetic eq e))
join_before (arithmetic ge e) (arithmetic eq g) = none
join_before (arithmetic ge e) (arithmetic ne g) = none
join_before (arithmetic ge e) (same x y) = none
join_before (arithmetic ge e) (not_same x y) = none
join_before (arithmetic ge e) (is_literal x y) = none
join_before (arithmetic eq e) g = none
join_before (arithmetic ne e) g = none
join_before (same x y) g = none
join_before (not_same x y) g = none
join_before (is_literal x y) g = none

-- Sum "Adds a ≥ fact"
abbrev pub children_before : RuleSet
children_before u b (Sum d ts) = then (sum_of b ts) (λ r. then (divided d r) (λ e. some (one (arithmetic ge e))))
children_before u b (BranchOn e) = children u b (BranchOn e)
children_before u b (Apart k) = children u b (Apart k)
children_before u b (AConf k) = children u b (AConf k)
children_before u b SConf = children u b SConf
children_before u b (SProp f x y) = children u b (SProp f x y)
children_before u b (LIntro x) = children u b (LIntro x)
children_before u b (LValid x) = children u b (LValid x)
children_before u b (CCollapse x) = children u b (CCollapse x)
children_before u b (CValid x) = children u b (CValid x)
children_before u b (CInj x y) = children u b (CInj x y)
children_before u b (Card xs) = children u b (Card xs)
children_before u b (Join j k) = then (get_elem? b j) (λ f. then (get_elem? b k) (λ g. join_before f g))
