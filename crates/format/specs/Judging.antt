-- Judging: "takes a question .. and an answer: 2 to 7 and 10 for the question, then 15 .., 16 ..."; else it says "all met", or names "the lowest-numbered
-- constraint that is not met. It also shows the very bytes of the record concerned" (02, L1).
use Rattle.std.specs.Prelude.{ℕ, Bool, true, false, not, cond, ◌&&◌, List, length, leb, eqb}
use Rattle.std.proofs.Math.Option.{Option, none, some}
use Rattle.lists.specs.Lists.{lowest}
use Rattle.calculus.specs.Facts.{Question, Fact, same, not_same, is_literal, arithmetic, holds, literal}
use Rattle.calculus.specs.Meaning.{Assignment, str, value}
use Rattle.calculus.specs.Strings.{eq_string}
use Rattle.calculus.specs.Extended.{Extended, meets_extended, Constraint, basic, extended, constraints_of}
use Rattle.format.specs.Records.{next}
use Rattle.format.specs.Question.{Reading, judged_question, by_reading}
use Rattle.format.specs.Places.{skip, constraints_from}
use Rattle.format.specs.Answer.{answer_form, outside, assignment_of}

-- Rejected: the number and the record. Submitted: the question with its extended constraints, and the strings and integers of the answer.
pub data Submission : Type 0 where
  Rejected : ℕ → ℕ → Submission
  Submitted : Question → List Extended → Assignment → Submission

-- "15 (record 0) when the answer is not exactly of its form, 16 (the answer's first such record) ..": by whether it is of its form, and by its first record
-- out of range
abbrev pub by_form : Question → List Extended → List ℕ → Bool → Option ℕ → Submission
by_form u es v false o = Rejected 15 0
by_form u es v true (some r) = Rejected 16 r
by_form u es v true none = Submitted u es (assignment_of v u)

abbrev pub judge_answer : Question → List Extended → List ℕ → Submission
judge_answer u es v = by_form u es v (answer_form v u.p u.q 0) (outside v u u.p 0 0)

abbrev pub judge_behind : Reading → List ℕ → Submission
judge_behind g v = by_reading Rejected (λ u es. judge_answer u es v) g

unfoldable pub submission : List ℕ → List ℕ → Submission
submission b v = judge_behind (judged_question b) v

-- ---- constraints

-- "it meets a constraint when the relation holds for those values with their len and code"
abbrev pub meets : Question → Assignment → Fact → Bool
meets u a (same x y) = eq_string (str a x) (str a y)
meets u a (not_same x y) = not (eq_string (str a x) (str a y))
meets u a (is_literal x l) = eq_string (str a x) (literal u l)
meets u a (arithmetic r e) = holds r (value a e)

abbrev pub meets_constraint : Question → Assignment → Constraint → Bool
meets_constraint u a (basic f) = meets u a f
meets_constraint u a (extended e) = meets_extended a e

-- ---- what judging says

pub data Judgement : Type 0 where
  Refusal : ℕ → ℕ → Judgement
  AllMet : Judgement
  -- by its number
  Unmet : ℕ → Judgement

-- "the lowest-numbered constraint that is not met", if there is one
abbrev pub first_unmet : Question → List Extended → Assignment → Option ℕ
first_unmet u es a = lowest (λ c. not (meets_constraint u a c)) (constraints_of u es)

abbrev pub said_of : Option ℕ → Judgement
said_of none = AllMet
said_of (some k) = Unmet k

abbrev pub said : Submission → Judgement
said (Rejected c r) = Refusal c r
said (Submitted u es a) = said_of (first_unmet u es a)

-- ---- what judging shows

pub data Side : Type 0 where
  of_question : Side
  of_answer : Side

-- the part of the question or of the answer from a position up to another
pub record Shown : Type 0 where
  pub side : Side
  pub from : ℕ
  pub to : ℕ

-- the whole record at a position, its six leading bytes included
abbrev pub record_shown : Side → List ℕ → ℕ → Shown
record_shown side b at = record { side = side; from = at; to = next b at }

-- "an empty part of the question": the one at its first byte
abbrev pub nothing_shown : Shown
nothing_shown = record { side = of_question; from = 0; to = 0 }

-- "For 15 that part is the whole answer"
abbrev pub answer_shown : List ℕ → Shown
answer_shown v = record { side = of_answer; from = 0; to = length v }

-- "from the answer for 15 and 16 .., and for every other outcome an empty part of the question"
abbrev pub refusal_shown : List ℕ → ℕ → ℕ → Shown
refusal_shown v c r = cond (eqb c 15) (answer_shown v) (cond (eqb c 16) (record_shown of_answer v (skip v r 0)) nothing_shown)

-- "from the question for an unmet constraint": the record of that constraint stands after the literals and the constraints before it
abbrev pub unmet_shown : List ℕ → Question → Option ℕ → Shown
unmet_shown b u none = nothing_shown
unmet_shown b u (some k) = record_shown of_question b (skip b k (constraints_from b (length u.literals)))

-- what is shown of the question b and the answer v
abbrev pub shown_by : List ℕ → List ℕ → Submission → Shown
shown_by b v (Rejected c r) = refusal_shown v c r
shown_by b v (Submitted u es a) = unmet_shown b u (first_unmet u es a)

-- by a part's side: what holds for the question, and for the answer
abbrev pub by_side : {A : Type 0} → Side → A → A → A
by_side of_question question answer = question
by_side of_answer question answer = answer

-- whether a part lies within a question and an answer of these lengths
abbrev pub part_within : ℕ → ℕ → Shown → Bool
part_within question-length answer_length s = leb s.from s.to && leb s.to (by_side s.side question-length answer_length)
