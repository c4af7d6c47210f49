-- Small cases of normal forms and of questions that are the same, computed, since ThL6 also holds of a comparison that finds fewer questions the same.
use mathlib.Core.Path.{◌≡◌, refl}
use mathlib.Core.Bool.{true, false}
use Prim.Native.Nat.{ℕ}
use mathlib.Core.List.{List, [], ◌∷◌}
use lib.IntN.{ℤ, pos, negsuc}
use Rattle.lists.specs.Lists.{count}
use Rattle.calculus.specs.Facts.{Question, Fact, same, not_same, is_literal, arithmetic, ge, eq, ne}
use Rattle.calculus.specs.Extended.{is_upper, in_order, basic, extended}
use Rattle.calculus.specs.NormalForms.{gcd_within, gcd, divisor_of, reduced, first_nonzero, with_positive_lead, normal, alike, agrees_by, eq_heads, same_by, same_sets}

-- ---- normal forms

-- c + k a + l b
abbrev form : ℤ → ℤ → ℤ → List ℤ
form c k l = c ∷ k ∷ l ∷ []

divided_by_the_divisor : normal (arithmetic ge (form (pos 2) (negsuc 3) (pos 6))) ≡ arithmetic ge (form (pos 1) (negsuc 1) (pos 3))
unfolding normal reduced divisor_of gcd gcd_within
divided_by_the_divisor = refl

constant_in_the_divisor : normal (arithmetic ge (form (pos 1) (pos 2) (pos 0))) ≡ arithmetic ge (form (pos 1) (pos 2) (pos 0))
unfolding normal reduced divisor_of gcd gcd_within
constant_in_the_divisor = refl

greatest_size : normal (arithmetic ge (form (negsuc 999999999) (pos 0) (pos 0))) ≡ arithmetic ge (form (negsuc 0) (pos 0) (pos 0))
unfolding normal reduced divisor_of gcd gcd_within
greatest_size = refl

nothing_to_divide : normal (arithmetic eq (form (pos 0) (pos 0) (pos 0))) ≡ arithmetic eq (form (pos 0) (pos 0) (pos 0))
unfolding normal reduced divisor_of gcd gcd_within with_positive_lead first_nonzero
nothing_to_divide = refl

constant_alone_turned : normal (arithmetic eq (form (negsuc 2) (pos 0) (pos 0))) ≡ arithmetic eq (form (pos 1) (pos 0) (pos 0))
unfolding normal reduced divisor_of gcd gcd_within with_positive_lead first_nonzero
constant_alone_turned = refl

unequal_constant_alone : normal (arithmetic ne (form (negsuc 6) (pos 0) (pos 0))) ≡ arithmetic ne (form (pos 1) (pos 0) (pos 0))
unfolding normal reduced divisor_of gcd gcd_within with_positive_lead first_nonzero
unequal_constant_alone = refl

-- by the lowest column that has a coefficient, whatever the constant's sign
turned_by_the_first : normal (arithmetic ne (form (pos 2) (pos 0) (negsuc 3))) ≡ arithmetic ne (form (negsuc 0) (pos 0) (pos 2))
unfolding normal reduced divisor_of gcd gcd_within with_positive_lead first_nonzero
turned_by_the_first = refl

not_turned_by_the_second : normal (arithmetic eq (form (negsuc 0) (pos 1) (negsuc 1))) ≡ arithmetic eq (form (negsuc 0) (pos 1) (negsuc 1))
unfolding normal reduced divisor_of gcd gcd_within with_positive_lead first_nonzero
not_turned_by_the_second = refl

at_least_not_turned : normal (arithmetic ge (form (pos 0) (negsuc 1) (pos 0))) ≡ arithmetic ge (form (pos 0) (negsuc 0) (pos 0))
unfolding normal reduced divisor_of gcd gcd_within
at_least_not_turned = refl

same_either_way : normal (same 2 1) ≡ same 1 2
unfolding normal
same_either_way = refl

not_same_either_way : normal (not_same 2 1) ≡ not_same 1 2
unfolding normal
not_same_either_way = refl

-- ---- questions

-- over two string variables, with these literals and constraints
abbrev asked : List (List ℕ) → List Fact → Question
asked ls cs = record { n = 200; p = 2; q = 0; literals = ls; constraints = cs }

abbrev one : Question
one = asked ((7 ∷ []) ∷ (8 ∷ []) ∷ []) []

abbrev other : Question
other = asked ((8 ∷ []) ∷ (7 ∷ []) ∷ []) []

-- one number, two texts
literals_by_characters : alike one other (basic (is_literal 0 1)) (basic (is_literal 0 1)) ≡ false
unfolding alike
literals_by_characters = refl

-- one text, two numbers
numbers_aside : alike one other (basic (is_literal 0 1)) (basic (is_literal 0 2)) ≡ true
unfolding alike
numbers_aside = refl

-- a text of one character is no variable's number
literal_unlike_variable : alike (asked ((1 ∷ []) ∷ []) []) one (basic (is_literal 0 1)) (basic (same 0 1)) ≡ false
unfolding alike
literal_unlike_variable = refl

-- a ≥ 0 and a = 0; x ≈ y, and x is y in upper case
relations_apart : alike one other (basic (arithmetic ge (form (pos 0) (pos 1) (pos 0)))) (basic (arithmetic eq (form (pos 0) (pos 1) (pos 0)))) ≡ false
unfolding alike
relations_apart = refl

kinds_apart : alike one other (basic (same 0 1)) (extended (is_upper 0 1)) ≡ false
unfolding alike
kinds_apart = refl

order_has_sides : alike one other (extended (in_order 0 1)) (extended (in_order 1 0)) ≡ false
unfolding alike
order_has_sides = refl

repeats_aside : same_sets (asked [] (same 0 1 ∷ same 1 0 ∷ [])) (is_upper 0 1 ∷ []) (asked ((9 ∷ []) ∷ []) (same 1 0 ∷ [])) (is_upper 0 1 ∷ is_upper 0 1 ∷ []) ≡ true
unfolding same_by eq_heads agrees_by count alike normal
repeats_aside = refl

-- the one's constraints are all among the other's, which has another
one_sided : same_sets (asked [] (same 0 1 ∷ [])) [] (asked [] (same 0 1 ∷ not_same 0 1 ∷ [])) [] ≡ false
unfolding same_by eq_heads agrees_by count alike normal
one_sided = refl

other_sided : same_sets (asked [] (same 0 1 ∷ not_same 0 1 ∷ [])) [] (asked [] (same 0 1 ∷ [])) [] ≡ false
unfolding same_by eq_heads agrees_by count alike normal
other_sided = refl
