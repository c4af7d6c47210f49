-- Small cases, computed: multipliers, Sums of equations and Joins, Card's bound, classes through literals, different variables, S-Conf, and the facts that a sibling starts with.
use mathlib.Core.Path.{◌≡◌, refl}
use mathlib.Core.Logic.{inl, inr}
use mathlib.Core.Option.{none, some}
use mathlib.Core.List.{List, [], ◌∷◌, ◌++◌}
use lib.IntN.{ℤ, pos, negsuc}
use Rattle.calculus.specs.LinearForms.{zeros}
use Rattle.calculus.specs.Facts.{Question, same, not_same, is_literal, arithmetic, ge, eq, ne}
use Rattle.calculus.specs.Children.{one}
use Rattle.calculus.specs.Chains.{here, along, back, OneClass}
use Rattle.calculus.specs.Steps.{Sum, SConf, CInj, Join}
use Rattle.calculus.specs.Rules.{all_equations, divides_exactly, least_power, children}
use Rattle.calculus.specs.Walk.{working, enter}

-- one integer variable a, two string variables, 2a − 1 ≥ 0
abbrev small : Question
small = record { n = 2; p = 2; q = 1; literals = []; constraints = arithmetic ge (negsuc 0 ∷ pos 2 ∷ zeros 47) ∷ [] }

negative_multiplier : children small small.constraints (Sum 1 ((0, negsuc 0) ∷ [])) ≡ none
negative_multiplier = refl

-- of 02, L4, with the form c + k · a
abbrev form : ℤ → ℤ → List ℤ
form c k = c ∷ k ∷ zeros 47

sum_of_equations : children small (arithmetic eq (form (negsuc 1) (pos 2)) ∷ []) (Sum 2 ((0, negsuc 0) ∷ [])) ≡ some (one (arithmetic eq (form (pos 1) (negsuc 0))))
unfolding all_equations divides_exactly
sum_of_equations = refl

-- 2a − 1 = 0 twice over 4: the columns divide exactly, the constant does not
rounded_sum : children small (arithmetic eq (form (negsuc 0) (pos 2)) ∷ []) (Sum 4 ((0, pos 1) ∷ (0, pos 1) ∷ [])) ≡ some (one (arithmetic ge (form (negsuc 0) (pos 1))))
unfolding all_equations divides_exactly
rounded_sum = refl

one_ge_fact_among : children small (arithmetic eq (form (pos 1) (pos 1)) ∷ arithmetic ge (form (pos 2) (pos 1)) ∷ []) (Sum 1 ((0, pos 1) ∷ (1, pos 1) ∷ []))
    ≡ some (one (arithmetic ge (form (pos 3) (pos 2))))
unfolding all_equations divides_exactly
one_ge_fact_among = refl

join_of_both : children small (arithmetic ge (form (pos 1) (pos 1)) ∷ arithmetic eq (form (negsuc 0) (negsuc 0)) ∷ []) (Join 0 1) ≡ some (one (arithmetic eq (form (pos 1) (pos 1))))
join_of_both = refl

equation_with_itself : children small (arithmetic eq (form (pos 1) (pos 1)) ∷ []) (Join 0 0) ≡ none
equation_with_itself = refl

no_join_of_unequal : children small (arithmetic ne (form (pos 0) (pos 0)) ∷ []) (Join 0 0) ≡ none
no_join_of_unequal = refl

one_variable : children small [] (CInj 0 0) ≡ none
one_variable = refl

-- x ≉ x closes by itself
with_itself : children small (not_same 0 0 ∷ []) SConf ≡ some []
with_itself = refl

-- literal 0, the empty string, is one of the literals
literal_zero : children (record { n = 2; p = 1; q = 0; literals = (0 ∷ []) ∷ []; constraints = [] }) (is_literal 0 0 ∷ is_literal 0 1 ∷ []) SConf ≡ some []
literal_zero = refl

-- "four strings of length 2 exist over two characters"
four_strings : least_power 4 2 4 0 ≡ 2
four_strings = refl

through_a_literal : OneClass (is_literal 0 1 ∷ is_literal 1 1 ∷ []) 0 1
through_a_literal = along (inl (refl, refl)) (back (inr (inl (refl, refl))) here)

-- the second child starts at the mark, without the facts of the first
siblings : enter ◌++◌ [] ((same 0 1 ∷ []) ∷ (is_literal 0 0 ∷ []) ∷ []) []
    ≡ working (same 0 1 ∷ []) (record { mark = []; child = is_literal 0 0 ∷ []; rest = [] } ∷ [])
siblings = refl
