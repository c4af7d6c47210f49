-- The starred cases on file, as entries of one table; Sums and Joins of equations, now and before L4; and the functions of extended constraints, each met
-- and not met.
use Rattle.std.specs.Prelude.{ℕ, ◌≡◌, length, ℤ, pos, negsuc}
use Rattle.std.proofs.Math.Option.{some}
use mathlib.Core.List.{List, [], ◌∷◌, ◌++◌, flat_map}
use Rattle.std.proofs.Math.ListN.{get_elem?}
use Rattle.calculus.specs.Limits.{work_numbers, answer_bytes}
use Rattle.calculus.specs.LinearForms.{minus, scale, column, number}
use Rattle.calculus.specs.Facts.{Question, Fact, arithmetic, Branch, ge, blank}
use Rattle.calculus.specs.Steps.{Step, Sum, CInj}
use Rattle.calculus.specs.Rules.{children}
use Rattle.format.specs.Fields.{bytes_of, unsigned}
use Rattle.format.specs.Answer.{record_bytes, encode}
use Rattle.format.specs.Written.{u16_bytes, pair_bytes, head_record, literal_record, string_record, claim_record, model_record, end_record}
use Rattle.format.specs.Checking.{Outcome, Refused, NoSolution, Strings, verdict, verdict_before}
use Rattle.format.specs.ProperForm.{steps}
use Rattle.format.specs.Demands.{answer_written}
use Rattle.format.specs.Judging.{submission, Judgement, Refusal, AllMet, Unmet, said}

-- ---- records as bytes

-- an arithmetic constraint by its fields: relation, constant, pairs
abbrev pub arithmetic_fields : ℕ → ℤ → List (ℕ × ℤ) → List ℕ
arithmetic_fields r c ts = record_bytes 4 (u16_bytes (r ∷ []) ++ (bytes_of 4 (unsigned c) ++ pair_bytes ts))

-- an extended constraint: function, a, b
abbrev pub extended_fields : ℕ → ℕ → ℕ → List ℕ
extended_fields f x y = record_bytes 11 (u16_bytes (f ∷ x ∷ y ∷ []))

-- a step of u16 fields: rule, child, operands
abbrev pub step_fields : List ℕ → List ℕ
step_fields vs = record_bytes 6 (u16_bytes vs)

-- Sum: child, divisor, pairs
abbrev pub sum_fields : ℕ → ℕ → List (ℕ × ℤ) → List ℕ
sum_fields k d ts = record_bytes 6 (u16_bytes (1 ∷ k ∷ []) ++ (bytes_of 4 d ++ pair_bytes ts))

unfoldable pub ticket : List (List ℕ) → List ℕ
ticket rs = flat_map (λ r. r) rs

abbrev pub strings_given : List (List ℕ) → List ℤ → Outcome
strings_given ss zs = Strings (record { strs = ss; ints = zs })

-- ---- the table

-- checking: a ticket's records and the outcome. closing: a ticket that is accepted as having no solution, how many steps it has, and the first. writing: the
-- bytes that a ticket has written to the answer buffer. before: the outcome by the rules before L4. adding: a step on a branch and the one fact that it adds.
-- judged: a question's records, an answer's strings and integers, and what judging says.
pub data Case : Type 0 where
  checking : List (List ℕ) → Outcome → Case
  closing : List (List ℕ) → ℕ → Step → Case
  writing : List (List ℕ) → List ℕ → Case
  before : List (List ℕ) → Outcome → Case
  adding : Question → Branch → Step → Fact → Case
  judged : List (List ℕ) → List (List ℕ) → List ℤ → Judgement → Case

abbrev pub CaseHolds : Case → Type 0
CaseHolds (checking rs o) = verdict work_numbers answer_bytes (ticket rs) ≡ o
CaseHolds (closing rs k st) =
    (verdict work_numbers answer_bytes (ticket rs) ≡ NoSolution) × (length (steps (ticket rs)) ≡ k) × (get_elem? (steps (ticket rs)) 0 ≡ some st)
CaseHolds (writing rs out) = answer_written (verdict work_numbers answer_bytes (ticket rs)) ≡ out
CaseHolds (before rs o) = verdict_before work_numbers answer_bytes (ticket rs) ≡ o
CaseHolds (adding u b st f) = children u b st ≡ some ((f ∷ []) ∷ [])
CaseHolds (judged rs ss zs j) = said (submission (ticket rs) (encode (record { strs = ss; ints = zs }))) ≡ j

-- one integer variable a, in column 0
abbrev pub one_integer : Question
one_integer = blank 1 0 1

abbrev pub starred : List Case
starred =
    -- example 1: closes in 11 steps, C-Inj first
    closing
    (head_record 128 2 0 ∷ arithmetic_fields 0 (negsuc 0) ((0, pos 1) ∷ (1, negsuc 0) ∷ []) ∷ arithmetic_fields 1 (pos 0) ((2, pos 1) ∷ (3, negsuc 0) ∷ [])
    ∷ arithmetic_fields 0 (pos 0) ((2, pos 1) ∷ []) ∷ claim_record 1 ∷ step_fields (11 ∷ 0 ∷ 0 ∷ 1 ∷ []) ∷ sum_fields 0 1 ((2, pos 1) ∷ (3, negsuc 0) ∷ [])
    ∷ step_fields (4 ∷ 0 ∷ 4 ∷ [])
    ∷ step_fields (3 ∷ 0 ∷ 3 ∷ []) ∷ sum_fields 0 1 ((4, pos 1) ∷ (1, negsuc 0) ∷ []) ∷ step_fields (4 ∷ 0 ∷ 5 ∷ []) ∷ sum_fields 0 1 ((4, pos 1) ∷ (1, pos 1) ∷ [])
    ∷ step_fields (4 ∷ 0 ∷ 5 ∷ []) ∷ step_fields (6 ∷ 0 ∷ 0 ∷ 0 ∷ 1 ∷ []) ∷ sum_fields 0 1 ((0, pos 1) ∷ (4, negsuc 0) ∷ []) ∷ step_fields (4 ∷ 0 ∷ 5 ∷ [])
    ∷ end_record ∷ [])
    11 (CInj 0 1)
    -- example 2 with ≉, y = 97, z = 106, n = 128: code 98 accepted
    ∷ checking (head_record 128 3 0 ∷ literal_record (97 ∷ []) ∷ literal_record (106 ∷ []) ∷ string_record 1 0 1 ∷ string_record 1 0 2 ∷ string_record 2 1 1
    ∷ string_record 2 2 2 ∷ arithmetic_fields 0 (negsuc 96) ((3, pos 1) ∷ [])
    ∷ arithmetic_fields 0 (pos 106) ((3, negsuc 0) ∷ []) ∷ claim_record 2 ∷ model_record (pos 1 ∷ pos 1 ∷ pos 1 ∷ pos 98 ∷ pos 97 ∷ pos 106 ∷ []) ∷ end_record ∷ [])
    (strings_given ((98 ∷ []) ∷ (97 ∷ []) ∷ (106 ∷ []) ∷ []) [])
    -- example 2 with ≉: code 97 gives 13
    ∷ checking (head_record 128 3 0 ∷ literal_record (97 ∷ []) ∷ literal_record (106 ∷ []) ∷ string_record 1 0 1 ∷ string_record 1 0 2 ∷ string_record 2 1 1
    ∷ string_record 2 2 2 ∷ arithmetic_fields 0 (negsuc 96) ((3, pos 1) ∷ [])
    ∷ arithmetic_fields 0 (pos 106) ((3, negsuc 0) ∷ []) ∷ claim_record 2 ∷ model_record (pos 1 ∷ pos 1 ∷ pos 1 ∷ pos 97 ∷ pos 97 ∷ pos 106 ∷ []) ∷ end_record ∷ [])
    (Refused 13 10)
    -- example 2 as printed: S-Conf closes it
    ∷ checking (head_record 128 3 0 ∷ literal_record (97 ∷ []) ∷ literal_record (106 ∷ []) ∷ string_record 0 0 1 ∷ string_record 0 0 2 ∷ string_record 2 1 1
    ∷ string_record 2 2 2 ∷ arithmetic_fields 0 (negsuc 96) ((3, pos 1) ∷ [])
    ∷ arithmetic_fields 0 (pos 106) ((3, negsuc 0) ∷ []) ∷ claim_record 1 ∷ step_fields (5 ∷ 0 ∷ []) ∷ end_record ∷ [])
    NoSolution
    -- example 4: length 1, code 0 accepted
    ∷ checking (head_record 128 1 0 ∷ arithmetic_fields 0 (pos 0) ((1, pos 1) ∷ []) ∷ arithmetic_fields 0 (negsuc 0) ((0, pos 1) ∷ (1, negsuc 0) ∷ [])
    ∷ claim_record 2 ∷ model_record (pos 1 ∷ pos 0 ∷ []) ∷ end_record
    ∷ [])
    (strings_given ((0 ∷ []) ∷ []) [])
    -- example 4: length 2, code 1 gives 13
    ∷ checking (head_record 128 1 0 ∷ arithmetic_fields 0 (pos 0) ((1, pos 1) ∷ []) ∷ arithmetic_fields 0 (negsuc 0) ((0, pos 1) ∷ (1, negsuc 0) ∷ [])
    ∷ claim_record 2 ∷ model_record (pos 2 ∷ pos 1 ∷ []) ∷ end_record
    ∷ [])
    (Refused 13 4)
    -- example 4: length 1, code 1 gives 12
    ∷ checking (head_record 128 1 0 ∷ arithmetic_fields 0 (pos 0) ((1, pos 1) ∷ []) ∷ arithmetic_fields 0 (negsuc 0) ((0, pos 1) ∷ (1, negsuc 0) ∷ [])
    ∷ claim_record 2 ∷ model_record (pos 1 ∷ pos 1 ∷ []) ∷ end_record
    ∷ [])
    (Refused 12 4)
    -- n = 2, four unjoined variables of length 2, codes −1: 00, 01, 10, 11
    ∷ checking
    (head_record 2 4 0 ∷ claim_record 2 ∷ model_record (pos 2 ∷ pos 2 ∷ pos 2 ∷ pos 2 ∷ negsuc 0 ∷ negsuc 0 ∷ negsuc 0 ∷ negsuc 0 ∷ []) ∷ end_record ∷ [])
    (strings_given ((0 ∷ 0 ∷ []) ∷ (0 ∷ 1 ∷ []) ∷ (1 ∷ 0 ∷ []) ∷ (1 ∷ 1 ∷ []) ∷ []) [])
    -- five: 13
    ∷ checking (head_record 2 5 0 ∷ claim_record 2
    ∷ model_record (pos 2 ∷ pos 2 ∷ pos 2 ∷ pos 2 ∷ pos 2 ∷ negsuc 0 ∷ negsuc 0 ∷ negsuc 0 ∷ negsuc 0 ∷ negsuc 0 ∷ []) ∷ end_record ∷ [])
    (Refused 13 2)
    -- n = 1, two unjoined variables of length 3: 13
    ∷ checking (head_record 1 2 0 ∷ claim_record 2 ∷ model_record (pos 3 ∷ pos 3 ∷ negsuc 0 ∷ negsuc 0 ∷ []) ∷ end_record ∷ [])
    (Refused 13 2)
    -- no variables, no constraints: claim 2 with an empty model accepted, answer 12 bytes
    ∷ writing (head_record 128 0 0 ∷ claim_record 2 ∷ model_record [] ∷ end_record ∷ [])
    (0 ∷ 0 ∷ 0 ∷ 0 ∷ 10 ∷ 0 ∷ 0 ∷ 0 ∷ 0 ∷ 0 ∷ 8 ∷ 0 ∷ [])
    -- no variables, no constraints: claim 1 gives 11
    ∷ checking (head_record 128 0 0 ∷ claim_record 1 ∷ end_record ∷ [])
    (Refused 11 2)
    -- 2a−1 ≥ 0 over divisor 2 is a−1 ≥ 0
    ∷ adding one_integer (arithmetic ge (minus (scale (pos 2) (column 0)) (number (pos 1))) ∷ []) (Sum 2 ((0, pos 1) ∷ []))
    (arithmetic ge (minus (column 0) (number (pos 1))))
    ∷ []

-- ---- Sums that remain equations (02, L4)

-- a − 1 = 0 and a = 0, claimed to have no solution
abbrev pub clashing : List (List ℕ) → List (List ℕ)
clashing steps = (head_record 1 0 1 ∷ arithmetic_fields 1 (negsuc 0) ((0, pos 1) ∷ []) ∷ arithmetic_fields 1 (pos 0) ((0, pos 1) ∷ []) ∷ claim_record 1 ∷ []) ++ (steps ++ (end_record ∷ []))

-- the difference of the two is 1 = 0, which closes; 1 ≥ 0 does not
abbrev pub one_sum : List (List ℕ)
one_sum = clashing (sum_fields 0 1 ((1, pos 1) ∷ (0, negsuc 0) ∷ []) ∷ step_fields (4 ∷ 0 ∷ 2 ∷ []) ∷ [])

-- a − 1 from two Sums and a Join, then the difference
abbrev pub sums_and_join : List (List ℕ)
sums_and_join =
    clashing (sum_fields 0 1 ((0, pos 1) ∷ []) ∷ sum_fields 0 1 ((0, negsuc 0) ∷ []) ∷ step_fields (13 ∷ 0 ∷ 2 ∷ 3 ∷ []) ∷ sum_fields 0 1 ((4, pos 1) ∷ (1, negsuc 0) ∷ [])
    ∷ step_fields (4 ∷ 0 ∷ 5 ∷ []) ∷ [])

-- a = 0, −a ≥ 0, and the Join of the first with the second; with a as 0
abbrev pub mixed_join : List (List ℕ)
mixed_join =
    head_record 1 0 1 ∷ arithmetic_fields 1 (pos 0) ((0, pos 1) ∷ []) ∷ arithmetic_fields 0 (pos 0) ((0, negsuc 0) ∷ []) ∷ claim_record 2 ∷ step_fields (13 ∷ 1 ∷ 0 ∷ 1 ∷ [])
    ∷ model_record (pos 0 ∷ []) ∷ end_record ∷ []

-- a = 0, twice over 2, with a as 0
abbrev pub repeated_sum : List (List ℕ)
repeated_sum =
    head_record 1 0 1 ∷ arithmetic_fields 1 (pos 0) ((0, pos 1) ∷ []) ∷ claim_record 2 ∷ sum_fields 1 2 ((0, pos 1) ∷ (0, pos 1) ∷ []) ∷ model_record (pos 0 ∷ []) ∷ end_record ∷ []

abbrev pub equation_cases : List Case
equation_cases =
    checking one_sum NoSolution
    ∷ before one_sum (Refused 8 5)
    ∷ checking sums_and_join NoSolution
    ∷ before sums_and_join NoSolution
    ∷ checking mixed_join (strings_given [] (pos 0 ∷ []))
    ∷ before mixed_join (Refused 8 4)
    ∷ checking repeated_sum (strings_given [] (pos 0 ∷ []))
    ∷ before repeated_sum (strings_given [] (pos 0 ∷ []))
    ∷ []

-- ---- extended constraints (02, L3)

-- a question of extended constraints alone over five strings and two integers, then its end
abbrev pub extended_question : List (List ℕ) → List (List ℕ)
extended_question cs = (head_record 128 5 2 ∷ cs) ++ (end_record ∷ [])

-- after a constraint that is met: s is t in upper case, w is s in lower case, a is x read in decimal, y is c in decimal, x is equal to or before y; over the
-- strings s, t, w, x, y and the integers a, c
abbrev pub all_functions : List (List ℕ)
all_functions =
    extended_question (arithmetic_fields 0 (pos 0) [] ∷ extended_fields 0 0 1 ∷ extended_fields 1 2 0 ∷ extended_fields 2 0 3 ∷ extended_fields 3 4 1 ∷ extended_fields 4 3 4 ∷ [])

-- letters at both ends of the alphabet, and the characters beside them
abbrev pub capitals : List ℕ
capitals = 65 ∷ 90 ∷ 64 ∷ 91 ∷ 96 ∷ 123 ∷ []

abbrev pub small_letters : List ℕ
small_letters = 97 ∷ 122 ∷ 64 ∷ 91 ∷ 96 ∷ 123 ∷ []

-- "105" stands before "30"
abbrev pub extended_cases : List Case
extended_cases =
    judged all_functions (capitals ∷ small_letters ∷ small_letters ∷ (49 ∷ 48 ∷ 53 ∷ []) ∷ (51 ∷ 48 ∷ []) ∷ []) (pos 105 ∷ pos 30 ∷ []) AllMet
    -- small letters are not upper case
    ∷ judged all_functions (small_letters ∷ small_letters ∷ small_letters ∷ (49 ∷ 48 ∷ 53 ∷ []) ∷ (51 ∷ 48 ∷ []) ∷ []) (pos 105 ∷ pos 30 ∷ []) (Unmet 1)
    -- capitals are not lower case
    ∷ judged all_functions (capitals ∷ small_letters ∷ capitals ∷ (49 ∷ 48 ∷ 53 ∷ []) ∷ (51 ∷ 48 ∷ []) ∷ []) (pos 105 ∷ pos 30 ∷ []) (Unmet 2)
    -- "0105" is not numeric
    ∷ judged all_functions (capitals ∷ small_letters ∷ small_letters ∷ (48 ∷ 49 ∷ 48 ∷ 53 ∷ []) ∷ (51 ∷ 48 ∷ []) ∷ []) (pos 105 ∷ pos 30 ∷ []) (Unmet 3)
    -- it is −1
    ∷ judged all_functions (capitals ∷ small_letters ∷ small_letters ∷ (48 ∷ 49 ∷ 48 ∷ 53 ∷ []) ∷ (51 ∷ 48 ∷ []) ∷ []) (negsuc 0 ∷ pos 30 ∷ []) AllMet
    -- −30 is written empty
    ∷ judged all_functions (capitals ∷ small_letters ∷ small_letters ∷ (49 ∷ 48 ∷ 53 ∷ []) ∷ (51 ∷ 48 ∷ []) ∷ []) (pos 105 ∷ negsuc 29 ∷ []) (Unmet 4)
    -- and "105" does not stand before the empty string
    ∷ judged all_functions (capitals ∷ small_letters ∷ small_letters ∷ (49 ∷ 48 ∷ 53 ∷ []) ∷ [] ∷ []) (pos 105 ∷ negsuc 29 ∷ []) (Unmet 5)
    -- equal strings are in order, and a proper prefix comes first; without kind 4, and after kind 3
    ∷ judged (extended_question (extended_fields 4 1 2 ∷ extended_fields 4 4 3 ∷ extended_fields 4 3 4 ∷ []))
    (capitals ∷ small_letters ∷ small_letters ∷ (49 ∷ 48 ∷ 53 ∷ []) ∷ (49 ∷ 48 ∷ []) ∷ []) (pos 0 ∷ pos 0 ∷ []) (Unmet 2)
    ∷ judged (extended_question (string_record 0 1 2 ∷ extended_fields 0 1 2 ∷ [])) (capitals ∷ small_letters ∷ small_letters ∷ [] ∷ [] ∷ []) (pos 0 ∷ pos 0 ∷ [])
    (Unmet 1)
    -- integer a is not one of two, string a not one of five, integer b not one of two; no function 5; no other length
    ∷ judged (extended_question (extended_fields 2 2 0 ∷ [])) [] [] (Refusal 6 1)
    ∷ judged (extended_question (extended_fields 3 5 0 ∷ [])) [] [] (Refusal 6 1)
    ∷ judged (extended_question (extended_fields 3 0 2 ∷ [])) [] [] (Refusal 6 1)
    ∷ judged (extended_question (extended_fields 5 0 0 ∷ [])) [] [] (Refusal 6 1)
    ∷ judged (extended_question (record_bytes 11 (u16_bytes (0 ∷ 0 ∷ [])) ∷ [])) [] [] (Refusal 5 1)
    -- a constraint of kind 4 does not stand after
    ∷ judged (extended_question (extended_fields 0 0 0 ∷ arithmetic_fields 0 (pos 0) [] ∷ [])) [] [] (Refusal 4 2)
    ∷ []
