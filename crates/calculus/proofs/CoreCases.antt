-- Small cases of cores, computed: they hold the sets from above, since a theorem about a set holds of every larger one too.
use mathlib.Core.Path.{◌≡◌, refl}
use mathlib.Core.Bool.{true, false}
use mathlib.Core.List.{[], ◌∷◌}
use lib.IntN.{pos, negsuc}
use Rattle.lists.specs.Lists.{lowest}
use Rattle.calculus.specs.Alphabet.{code_ranges, character_count}
use Rattle.calculus.specs.LinearForms.{number, minus, column, above}
use Rattle.calculus.specs.Facts.{Question, same, not_same, is_literal, arithmetic, Branch, ge, eq, len}
use Rattle.calculus.specs.Steps.{Sum, BranchOn, AConf, SConf, SProp, LIntro, LValid, CCollapse, CValid, CInj, Card, Join}
use Rattle.calculus.specs.Rules.{all_equations, divides_exactly, states_difference, states_equal}
use Rattle.calculus.specs.Cores.{union, rooted_from, named_sets, sets_of, neighbour_sets, rests_on, core_from, core_in}

-- ---- rules that rest on nothing

-- x ≈ x and x ≉ y stand aside; −1 ≥ 0; −len(x) ≥ 0; code(x) ≥ 0
abbrev aside : Question
aside = record {
  n = 2;
  p = 3;
  q = 0;
  literals = [];
  constraints =
      same 0 0
      ∷ not_same 0 1
      ∷ arithmetic ge (number (negsuc 0))
      ∷ arithmetic ge (minus (number (pos 0)) (column 0))
      ∷ arithmetic ge (column 3)
      ∷ [];
}

branch_on_nothing : core_in aside (BranchOn (number (negsuc 0)) ∷ AConf 5 ∷ AConf 2 ∷ []) ≡ false ∷ false ∷ true ∷ []
unfolding core_from rooted_from rests_on union sets_of named_sets
branch_on_nothing = refl

l_valid_on_nothing : core_in aside (LValid 0 ∷ AConf 2 ∷ Sum 1 ((3, pos 1) ∷ (5, pos 1) ∷ []) ∷ AConf 6 ∷ []) ≡ false ∷ false ∷ true ∷ true ∷ []
unfolding core_from rooted_from rests_on union sets_of named_sets all_equations divides_exactly
l_valid_on_nothing = refl

c_valid_on_nothing : core_in aside (CValid 0 ∷ Sum 1 ((4, pos 1) ∷ (6, negsuc 0) ∷ []) ∷ AConf 7 ∷ AConf 2 ∷ []) ≡ false ∷ false ∷ true ∷ false ∷ true ∷ []
unfolding core_from rooted_from rests_on union sets_of named_sets all_equations divides_exactly code_ranges
c_valid_on_nothing = refl

c_inj_on_nothing : core_in aside (CInj 0 1 ∷ Sum 1 ((4, pos 1) ∷ (5, negsuc 0) ∷ []) ∷ AConf 6 ∷ AConf 2 ∷ AConf 2 ∷ []) ≡ false ∷ false ∷ true ∷ false ∷ true ∷ []
unfolding core_from rooted_from rests_on union sets_of named_sets all_equations divides_exactly
c_inj_on_nothing = refl

-- ---- ≉ facts take no part in rules that use the ≈ facts alone

-- x ≉ z, x ≈ y, x ≈ literal 0, len(x) − len(y) − 1 ≥ 0, len(x) − 1 ≥ 0, code(x) ≥ 0
abbrev apart : Question
apart = record {
  n = 2;
  p = 3;
  q = 0;
  literals = [];
  constraints =
      not_same 0 2
      ∷ same 0 1
      ∷ is_literal 0 0
      ∷ arithmetic ge (above (minus (column 0) (column 1)))
      ∷ arithmetic ge (above (column 0))
      ∷ arithmetic ge (column 3)
      ∷ [];
}

s_prop_on_equal : core_in apart (SProp len 0 1 ∷ Sum 1 ((3, pos 1) ∷ (6, negsuc 0) ∷ []) ∷ AConf 7 ∷ []) ≡ false ∷ true ∷ true ∷ true ∷ []
unfolding core_from rooted_from rests_on union sets_of named_sets all_equations divides_exactly
s_prop_on_equal = refl

l_intro_on_equal : core_in apart (LIntro 0 ∷ Sum 1 ((4, pos 1) ∷ (6, negsuc 0) ∷ []) ∷ AConf 7 ∷ []) ≡ false ∷ true ∷ true ∷ false ∷ true ∷ []
unfolding core_from rooted_from rests_on union sets_of named_sets all_equations divides_exactly
l_intro_on_equal = refl

c_collapse_on_equal : core_in apart (CCollapse 0 ∷ Sum 1 ((5, pos 1) ∷ (6, negsuc 0) ∷ []) ∷ AConf 7 ∷ []) ≡ false ∷ true ∷ true ∷ false ∷ false ∷ true ∷ []
unfolding core_from rooted_from rests_on union sets_of named_sets all_equations divides_exactly
c_collapse_on_equal = refl

-- ---- Card's lowest fact, in either order; closing steps alone are gathered

-- over one character, x ≉ y, len(x) − len(y) ≥ 0 and its negative, before more constraints
abbrev one_length : Branch → Question
one_length more = record {
  n = 1;
  p = 2;
  q = 0;
  literals = [];
  constraints = not_same 0 1 ∷ arithmetic ge (minus (column 0) (column 1)) ∷ arithmetic ge (minus (column 1) (column 0)) ∷ more;
}

card_on_joined : core_in (one_length []) (Join 1 2 ∷ Card (0 ∷ 1 ∷ []) ∷ SConf ∷ []) ≡ true ∷ true ∷ true ∷ []
unfolding core_from rooted_from rests_on union sets_of neighbour_sets lowest states_difference states_equal character_count
card_on_joined = refl

-- the equation stands below the fact that Join adds
card_on_lowest : core_in (one_length (arithmetic eq (minus (column 0) (column 1)) ∷ [])) (Join 1 2 ∷ Card (0 ∷ 1 ∷ []) ∷ SConf ∷ []) ≡ true ∷ false ∷ false ∷ true ∷ []
unfolding core_from rooted_from rests_on union sets_of neighbour_sets lowest states_difference states_equal character_count
card_on_lowest = refl

-- also where the lowest has the other order
card_on_either : core_in (one_length (arithmetic eq (minus (column 1) (column 0)) ∷ arithmetic eq (minus (column 0) (column 1)) ∷ [])) (Card (0 ∷ 1 ∷ []) ∷ SConf ∷ [])
    ≡ true ∷ false ∷ false ∷ true ∷ []
unfolding core_from rooted_from rests_on union sets_of neighbour_sets lowest states_difference states_equal character_count
card_on_either = refl
