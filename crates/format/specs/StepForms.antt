-- The forms of steps: "6 step: u16 rule, u16 child, operands". The lengths, the ranges of the fields, and the step that a body holds.
use Rattle.std.specs.Prelude.{ℕ, zero, suc, ◌+◌, ◌-◌, ◌/◌, ◌%◌, Bool, true, false, ◌&&◌, List, [], ◌∷◌, length, get_or, ltb, leb, eqb, ℤ}
use Rattle.lists.specs.Lists.{all}
use Rattle.calculus.specs.Facts.{Function, len, code}
use Rattle.calculus.specs.Steps.{shape, Step, Sum, BranchOn, Apart, AConf, SConf, SProp, LIntro, LValid, CCollapse, CValid, CInj, Card, Join}
use Rattle.calculus.specs.Limits.{ticket_bytes, variable_limit, column_limit, summand_limit, number_limit}
use Rattle.format.specs.Fields.{u16, u32, u16s, pairs_at, within}
use Rattle.format.specs.Question.{form_range, form_of}

-- ---- rules by number

pub data Rule : Type 0 where
  sum branch apart a_conf s_conf s_prop l_intro l_valid c_collapse c_valid c_inj card join : Rule
  -- every other number
  unknown : Rule

abbrev pub rule_names : List Rule
rule_names =
    unknown ∷ sum ∷ branch ∷ apart ∷ a_conf ∷ s_conf ∷ s_prop ∷ l_intro ∷ l_valid ∷ c_collapse ∷ c_valid ∷ c_inj ∷ card ∷ join ∷ []

abbrev pub rule_of : ℕ → Rule
rule_of k = get_or rule_names k unknown

-- ---- the length of each rule's operands, by what document 01 calls "a fixed table of step forms": rule and child, 4 bytes, counted in

-- the least length, and at most `greatest` times `stride` more
pub record Form : Type 0 where
  pub least : ℕ
  pub stride : ℕ
  pub greatest : ℕ

abbrev pub form : ℕ → ℕ → ℕ → Form
form l s g = record { least = l; stride = s; greatest = g }

abbrev pub form_for : Rule → Form
-- "i32 divisor .., then 1 to 8 pairs (fact, i32 multiplier)"
form_for sum = form 14 6 (summand_limit - 1)
-- "form e, written as in kind 4 without relation"
form_for branch = form 8 6 column_limit
-- "a fact e ≠ 0"
form_for apart = form 6 1 0
-- "an arithmetic fact"
form_for a_conf = form 6 1 0
-- "no operand"
form_for s_conf = form 4 1 0
-- "function (0 len, 1 code), different variables x, y"
form_for s_prop = form 10 1 0
form_for l_intro = form 6 1 0
form_for l_valid = form 6 1 0
form_for c_collapse = form 6 1 0
form_for c_valid = form 6 1 0
-- "different x, y"
form_for c_inj = form 8 1 0
-- "2 to 16 different variables"
form_for card = form 8 2 (variable_limit - 2)
-- two facts
form_for join = form 8 1 0
-- "for an unknown rule, only when under 4 bytes"
form_for unknown = form 4 1 ticket_bytes

abbrev pub fits_form : Form → ℕ → Bool
fits_form f m = leb f.least m && (eqb ((m - f.least) % f.stride) 0 && leb ((m - f.least) / f.stride) f.greatest)

-- ---- the operands of a body of m bytes at a position; they begin at its fifth byte

abbrev pub rule : List ℕ → ℕ → Rule
rule b at = rule_of (u16 b at)

abbrev pub child_field : List ℕ → ℕ → ℕ
child_field b at = u16 b (at + 2)

abbrev pub length_fits : List ℕ → ℕ → ℕ → Bool
length_fits b at m = fits_form (form_for (rule b at)) m

-- how many pairs a body of m bytes has after its rule, child and first i32
abbrev pub pairs_in : ℕ → ℕ
pairs_in m = (m - 8) / 6

-- Sum's pairs: "then 1 to 8 pairs (fact, i32 multiplier)"
abbrev pub sum_pairs : List ℕ → ℕ → ℕ → List (ℕ × ℤ)
sum_pairs b at m = pairs_at b (at + 8) (pairs_in m)

-- "Coefficients, constants and multipliers lie within ±1,000,000,000"
unfoldable pub multipliers_within : List (ℕ × ℤ) → Bool
multipliers_within ts = all (λ t. within number_limit t.1) ts

-- "Card: 2 to 16 different variables"
abbrev pub card_variables : List ℕ → ℕ → ℕ → List ℕ
card_variables b at m = u16s b (at + 4) ((m - 4) / 2)

-- 0 is len, 1 is code; any other number is out of range
abbrev pub function_of : ℕ → Function
function_of zero = len
function_of (suc f) = code

-- each is the number of a string variable
abbrev pub are_variables : ℕ → List ℕ → Bool
are_variables p xs = all (λ x. ltb x p) xs

-- the fields of a step are in their ranges, over p string variables and c columns; for an unknown rule they are not.
-- "i32 divisor of at least 1": a u32 of 1 to 2,147,483,647. A fact's number has no range.
unfoldable pub operands_in_range : List ℕ → ℕ → ℕ → Rule → ℕ → ℕ → Bool
operands_in_range b p c sum at m = leb 1 (u32 b (at + 4)) && (leb (u32 b (at + 4)) 2147483647 && multipliers_within (sum_pairs b at m))
operands_in_range b p c branch at m = form_range b c (at + 4) (pairs_in m)
operands_in_range b p c apart at m = true
operands_in_range b p c a_conf at m = true
operands_in_range b p c s_conf at m = true
operands_in_range b p c s_prop at m = leb (u16 b (at + 4)) 1 && are_variables p (u16 b (at + 6) ∷ u16 b (at + 8) ∷ [])
operands_in_range b p c l_intro at m = are_variables p (u16 b (at + 4) ∷ [])
operands_in_range b p c l_valid at m = are_variables p (u16 b (at + 4) ∷ [])
operands_in_range b p c c_collapse at m = are_variables p (u16 b (at + 4) ∷ [])
operands_in_range b p c c_valid at m = are_variables p (u16 b (at + 4) ∷ [])
operands_in_range b p c c_inj at m = are_variables p (u16 b (at + 4) ∷ u16 b (at + 6) ∷ [])
operands_in_range b p c card at m = are_variables p (card_variables b at m)
operands_in_range b p c join at m = true
operands_in_range b p c unknown at m = false

-- the step that a body holds; an unknown rule, which is out of range, is read as S-Conf
unfoldable pub step_of : List ℕ → Rule → ℕ → ℕ → Step
step_of b sum at m = Sum (u32 b (at + 4)) (sum_pairs b at m)
step_of b branch at m = BranchOn (form_of b (at + 4) (pairs_in m))
step_of b apart at m = Apart (u16 b (at + 4))
step_of b a_conf at m = AConf (u16 b (at + 4))
step_of b s_conf at m = SConf
step_of b s_prop at m = SProp (function_of (u16 b (at + 4))) (u16 b (at + 6)) (u16 b (at + 8))
step_of b l_intro at m = LIntro (u16 b (at + 4))
step_of b l_valid at m = LValid (u16 b (at + 4))
step_of b c_collapse at m = CCollapse (u16 b (at + 4))
step_of b c_valid at m = CValid (u16 b (at + 4))
step_of b c_inj at m = CInj (u16 b (at + 4)) (u16 b (at + 6))
step_of b card at m = Card (card_variables b at m)
step_of b join at m = Join (u16 b (at + 4)) (u16 b (at + 6))
step_of b unknown at m = SConf

abbrev pub step_at : List ℕ → ℕ → ℕ → Step
step_at b at m = step_of b (rule b at) at m

-- the child numbers under claim 2, over n characters: "the child taken, from 1; it is 1 for a rule with one conclusion or none"
abbrev pub is_child : List ℕ → ℕ → Bool
is_child [] k = eqb k 1
is_child (c ∷ cs) k = leb 1 k && leb k (suc (length cs))

abbrev pub child_in_range : ℕ → Step → ℕ → Bool
child_in_range n st k = is_child (shape n st) k
