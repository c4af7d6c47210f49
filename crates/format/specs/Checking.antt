-- Checking: "Checking names the first faulty record from 0 (0 for 1 and 2), and there the first of" the numbers 1 to 14.
use Rattle.std.specs.Prelude.{ℕ, ◌+◌, Bool, true, false, ◌&&◌, ◌||◌, List, [], ◌++◌, length, take, ltb, leb, ℤ, pos}
use Rattle.std.proofs.Math.Option.{Option, none, some, get_or}
use Rattle.std.specs.Int.Signed.{le_z}
use Rattle.lists.specs.Lists.{all, all_below}
use Rattle.calculus.specs.LinearForms.{value_in}
use Rattle.calculus.specs.Limits.{work_numbers, answer_bytes, length_limit, number_limit, fact_limit, pending_limit}
use Rattle.calculus.specs.Facts.{Question, Fact, on_arithmetic, Branch, holds, len}
use Rattle.calculus.specs.Children.{child_at}
use Rattle.calculus.specs.Rules as calculus
use Rattle.calculus.specs.Walk.{working, closed}
use Rattle.calculus.specs.Model.{model_value}
use Rattle.calculus.specs.SettledTest.{settled}
use Rattle.calculus.specs.Strings.{strings}
use Rattle.calculus.specs.Meaning.{Assignment}
use Rattle.format.specs.Fields.{all_within}
use Rattle.format.specs.Records.{need}
use Rattle.format.specs.Question.{question}
use Rattle.format.specs.Reading.{State, proving, taking, modelled, Method, Ticket, Faulty, Done, read_behind}

-- ---- 8 to 10: a step that does not fit, a number that passes the limit, facts or pending splits that would pass theirs

abbrev pub fits : {A : Type 0} → Option A → Bool
fits none = false
fits (some a) = true

abbrev pub or_none : {A : Type 0} → Option (List A) → List A
or_none o = get_or o []

-- "9 when a new number passes the limit"
abbrev pub fact_within : Fact → Bool
fact_within f = on_arithmetic (λ r e. all_within number_limit e) f

unfoldable pub facts_within : List Fact → Bool
facts_within fs = all fact_within fs

unfoldable pub children_within : List (List Fact) → Bool
children_within cs = all facts_within cs

-- "10 when facts or pending splits would pass theirs"
abbrev pub room : ℕ → List Fact → Bool
room k c = leb (k + length c) fact_limit

unfoldable pub room_for_all : ℕ → List (List Fact) → Bool
room_for_all k cs = all (room k) cs

-- a split with two or more children is pending
abbrev pub room_to_pend : ℕ → List (List Fact) → Bool
room_to_pend pending cs = leb (length cs) 1 || ltb pending pending_limit

-- "Under claim 1 all children of a split are tried for 9 and 10 at the split's own record"
abbrev pub all_tried : Branch → ℕ → Option (List (List Fact)) → ℕ
all_tried br pending o =
    need 8 (fits o) (need 9 (children_within (or_none o)) (need 10 (room_for_all (length br) (or_none o) && room_to_pend pending (or_none o)) 0))

-- "under claim 2 only the one taken"
abbrev pub taken_tried : Branch → Option (List Fact) → ℕ
taken_tried br o = need 8 (fits o) (need 9 (facts_within (or_none o)) (need 10 (room (length br) (or_none o)) 0))

-- the child of number k, from 1; a closing rule has none, so it does not fit under claim 2
abbrev pub child_in : Option (List (List Fact)) → ℕ → Option (List Fact)
child_in o k = calculus.then o (λ cs. child_at cs k)

-- ---- 12 to 14, at the model

-- each arithmetic fact "holds with the model's value in every column"
abbrev pub keeps_fact : List ℤ → Fact → Bool
keeps_fact m f = on_arithmetic (λ r e. holds r (value_in m e)) f

unfoldable pub keeps : List ℤ → Branch → Bool
keeps m b = all (keeps_fact m) b

-- "14 when a length passes 64"
abbrev pub short_lengths : Question → List ℤ → Bool
short_lengths u m = all_below u.p (λ x. le_z (model_value u m len x) (pos length_limit))

-- "at the model, 12 when it breaks an arithmetic fact, 13 when the leaf is not settled, 14 when a length passes 64"
abbrev pub leaf_fault : Question → Branch → List ℤ → ℕ
leaf_fault u br m = need 12 (keeps m br) (need 13 (settled u br m) (need 14 (short_lengths u m) 0))

-- ---- the whole ticket

-- checking by a rule set
abbrev pub checker_by : calculus.RuleSet → Question → Method Branch (List Fact)
checker_by rules u = record {
  root = u.constraints;
  add = ◌++◌;
  children = λ br st. or_none (rules u br st);
  taken = λ br st k. br ++ or_none (child_in (rules u br st) k);
  split_fault = λ br ss st. all_tried br (length ss) (rules u br st);
  taken_fault = λ br st k. taken_tried br (child_in (rules u br st) k);
  leaf_fault = leaf_fault u;
}

-- by the rules as they are now
abbrev pub checker : Question → Method Branch (List Fact)
checker = checker_by calculus.children

-- Refused: the number and the record. Strings: the strings and integers that are given.
pub data Outcome : Type 0 where
  Refused : ℕ → ℕ → Outcome
  NoSolution : Outcome
  Strings : Assignment → Outcome

-- "The strings .. The integers are the model's"
abbrev pub answer_of : Question → Branch → List ℤ → Assignment
answer_of u br m = record { strs = strings u br m; ints = take u.q m }

-- by the state at the end, record r: "11 when the end comes before every branch closed, or before a model"
abbrev pub accepted : Question → State Branch (List Fact) → ℕ → Outcome
accepted u (proving (working br ss)) r = Refused 11 r
accepted u (proving closed) r = NoSolution
accepted u (taking br) r = Refused 11 r
accepted u (modelled br m) r = Strings (answer_of u br m)

abbrev pub outcome_of : Ticket Branch (List Fact) → Outcome
outcome_of (Faulty c r) = Refused c r
outcome_of (Done u s r) = accepted u s r

-- "Buffers are large enough when 1 does not apply"
abbrev pub large_enough : ℕ → ℕ → Bool
large_enough work answer = leb work_numbers work && leb answer_bytes answer

-- the outcome of checking a ticket by a rule set, with the lengths of the work area and of the answer buffer
unfoldable pub verdict_by : calculus.RuleSet → ℕ → ℕ → List ℕ → Outcome
verdict_by rules work answer b = elim (large_enough work answer) [ false ↦ Refused 1 0 | true ↦ outcome_of (read_behind (checker_by rules) b (question b)) ]

-- by the rules as they are now
abbrev pub verdict : ℕ → ℕ → List ℕ → Outcome
verdict work answer b = verdict_by calculus.children work answer b

-- by the rules before L4 of 02
abbrev pub verdict_before : ℕ → ℕ → List ℕ → Outcome
verdict_before work answer b = verdict_by calculus.children_before work answer b
