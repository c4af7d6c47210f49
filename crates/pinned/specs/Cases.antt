-- Cases that pin what the definitions and the code could change together: the numbers of the rules, the order and signs of every rule's children, each limit at
-- its end and one past it, and of neighbouring numbers that can meet at one record which comes first.
use Rattle.std.specs.Prelude.{ℕ, zero, suc, ◌≡◌, List, [], ◌∷◌, ◌++◌, set, replicate, ℤ, pos, negsuc}
use Rattle.std.proofs.Math.Option.{some}
use Rattle.lists.specs.Lists.{All}
use Rattle.calculus.specs.Facts.{Question, Fact, same, not_same, is_literal, arithmetic, Branch, ge, eq, ne, len, code}
use Rattle.calculus.specs.Steps.{Step, Sum, BranchOn, Apart, AConf, SConf, SProp, LIntro, LValid, CCollapse, CValid, CInj, Card, Join}
use Rattle.calculus.specs.Rules.{children}
use Rattle.format.specs.Fields.{bytes_of, unsigned}
use Rattle.format.specs.Records.{size}
use Rattle.format.specs.Answer.{record_bytes, character_bytes, integer_bytes}
use Rattle.format.specs.StepForms.{step_at}
use Rattle.format.specs.Checking.{Outcome, Refused, verdict}
use Rattle.format.specs.Judging.{submission, Judgement, Refusal, AllMet, Unmet, said}
use Rattle.format.specs.Written.{u16_bytes, pair_bytes, head_record, literal_record, string_record, claim_record, model_record, end_record}
use Rattle.format.specs.Cases.{arithmetic_fields, step_fields, sum_fields, ticket, strings_given}

-- reading: a step's record and the step that it is. splitting: a step on a branch and its children. checking: the lengths of the lent buffers, a ticket's
-- bytes, and the outcome. judged: a question's bytes, an answer's, and what judging says.
pub data Pin : Type 0 where
  reading : List ℕ → Step → Pin
  splitting : Question → Branch → Step → List (List Fact) → Pin
  checking : ℕ → ℕ → List ℕ → Outcome → Pin
  judged : List ℕ → List ℕ → Judgement → Pin

abbrev pub PinHolds : Pin → Type 0
PinHolds (reading b st) = step_at b 6 (size b 0) ≡ st
PinHolds (splitting u b st cs) = children u b st ≡ some cs
PinHolds (checking work answer b o) = verdict work answer b ≡ o
PinHolds (judged b v j) = said (submission b v) ≡ j

-- ---- rows: a constant, and coefficients by their columns

unfoldable pub filled : List ℤ → List (ℕ × ℤ) → List ℤ
filled zs [] = zs
filled zs (t ∷ ts) = filled (set zs t.0 t.1) ts

abbrev pub row : ℤ → List (ℕ × ℤ) → List ℤ
row c ts = c ∷ filled (replicate 48 (pos 0)) ts

-- Branch by its fields: child, constant, pairs
abbrev pub branch_fields : ℕ → ℤ → List (ℕ × ℤ) → List ℕ
branch_fields k c ts = record_bytes 6 (u16_bytes (2 ∷ k ∷ []) ++ (bytes_of 4 (unsigned c) ++ pair_bytes ts))

-- ---- the rules by their numbers

abbrev pub rule_numbers : List Pin
rule_numbers =
    reading (sum_fields 0 3 ((5, negsuc 6) ∷ (2, pos 4) ∷ [])) (Sum 3 ((5, negsuc 6) ∷ (2, pos 4) ∷ []))
    ∷ reading (branch_fields 0 (negsuc 8) ((1, pos 2) ∷ (47, negsuc 0) ∷ [])) (BranchOn (row (negsuc 8) ((1, pos 2) ∷ (47, negsuc 0) ∷ [])))
    ∷ reading (step_fields (3 ∷ 0 ∷ 7 ∷ [])) (Apart 7)
    ∷ reading (step_fields (4 ∷ 0 ∷ 7 ∷ [])) (AConf 7)
    ∷ reading (step_fields (5 ∷ 0 ∷ [])) SConf
    ∷ reading (step_fields (6 ∷ 0 ∷ 0 ∷ 3 ∷ 2 ∷ [])) (SProp len 3 2)
    ∷ reading (step_fields (6 ∷ 0 ∷ 1 ∷ 3 ∷ 2 ∷ [])) (SProp code 3 2)
    ∷ reading (step_fields (7 ∷ 0 ∷ 3 ∷ [])) (LIntro 3)
    ∷ reading (step_fields (8 ∷ 0 ∷ 3 ∷ [])) (LValid 3)
    ∷ reading (step_fields (9 ∷ 0 ∷ 3 ∷ [])) (CCollapse 3)
    ∷ reading (step_fields (10 ∷ 0 ∷ 3 ∷ [])) (CValid 3)
    ∷ reading (step_fields (11 ∷ 0 ∷ 3 ∷ 2 ∷ [])) (CInj 3 2)
    ∷ reading (step_fields (12 ∷ 0 ∷ 3 ∷ 2 ∷ 5 ∷ [])) (Card (3 ∷ 2 ∷ 5 ∷ []))
    ∷ reading (step_fields (13 ∷ 0 ∷ 7 ∷ 6 ∷ [])) (Join 7 6)
    ∷ []

-- ---- the children of each rule, over 100 characters, three strings and one integer a: columns a; len of each; code of each

abbrev pub three : Question
three = record { n = 100; p = 3; q = 1; literals = (65 ∷ []) ∷ (66 ∷ 67 ∷ []) ∷ []; constraints = [] }

-- 2a − 3 ≥ 0; a + 1 = 0; 3 − a ≠ 0; −1 ≥ 0; x ≈ y; x ≈ literal 1; the lengths of x and y, and of z and y, agree; a − 4 ≥ 0 and its negative; x ≉ y
abbrev pub standing : Branch
standing =
    arithmetic ge (row (negsuc 2) ((0, pos 2) ∷ [])) ∷ arithmetic eq (row (pos 1) ((0, pos 1) ∷ [])) ∷ arithmetic ne (row (pos 3) ((0, negsuc 0) ∷ []))
    ∷ arithmetic ge (row (negsuc 0) []) ∷ same 0 1 ∷ is_literal 0 1 ∷ arithmetic eq (row (pos 0) ((1, pos 1) ∷ (2, negsuc 0) ∷ []))
    ∷ arithmetic eq (row (pos 0) ((3, pos 1) ∷ (2, negsuc 0) ∷ [])) ∷ arithmetic ge (row (negsuc 3) ((0, pos 1) ∷ []))
    ∷ arithmetic ge (row (pos 4) ((0, negsuc 0) ∷ [])) ∷ not_same 0 1 ∷ []

abbrev pub children_of_rules : List Pin
children_of_rules =
    -- twice 2a − 3 less twice a + 1 is 2a − 8, halved; −3 over 2 is −2
    splitting three standing (Sum 2 ((0, pos 2) ∷ (1, negsuc 1) ∷ [])) ((arithmetic ge (row (negsuc 3) ((0, pos 1) ∷ [])) ∷ []) ∷ [])
    ∷ splitting three standing (Sum 2 ((0, pos 1) ∷ [])) ((arithmetic ge (row (negsuc 1) ((0, pos 1) ∷ [])) ∷ []) ∷ [])
    ∷ splitting three standing (BranchOn (row (pos 5) ((0, pos 7) ∷ [])))
    ((arithmetic ge (row (pos 5) ((0, pos 7) ∷ [])) ∷ []) ∷ (arithmetic ge (row (negsuc 5) ((0, negsuc 6) ∷ [])) ∷ []) ∷ [])
    ∷ splitting three standing (Apart 2)
    ((arithmetic ge (row (pos 2) ((0, negsuc 0) ∷ [])) ∷ []) ∷ (arithmetic ge (row (negsuc 3) ((0, pos 1) ∷ [])) ∷ []) ∷ [])
    ∷ splitting three standing (AConf 3) []
    ∷ splitting three standing SConf []
    ∷ splitting three standing (SProp len 1 0) ((arithmetic eq (row (pos 0) ((1, negsuc 0) ∷ (2, pos 1) ∷ [])) ∷ []) ∷ [])
    ∷ splitting three standing (SProp code 0 1) ((arithmetic eq (row (pos 0) ((4, pos 1) ∷ (5, negsuc 0) ∷ [])) ∷ []) ∷ [])
    ∷ splitting three standing (LIntro 1) ((arithmetic eq (row (negsuc 0) ((2, pos 1) ∷ [])) ∷ []) ∷ [])
    ∷ splitting three standing (LValid 2) ((is_literal 2 0 ∷ []) ∷ (arithmetic ge (row (negsuc 0) ((3, pos 1) ∷ [])) ∷ []) ∷ [])
    ∷ splitting three standing (CCollapse 1) ((arithmetic eq (row (negsuc 64) ((5, pos 1) ∷ [])) ∷ []) ∷ [])
    ∷ splitting three standing (CValid 2)
    ((arithmetic ne (row (negsuc 0) ((3, pos 1) ∷ [])) ∷ arithmetic eq (row (pos 1) ((6, pos 1) ∷ [])) ∷ [])
    ∷ (arithmetic eq (row (negsuc 0) ((3, pos 1) ∷ [])) ∷ arithmetic ge (row (pos 0) ((6, pos 1) ∷ [])) ∷ arithmetic ge (row (pos 99) ((6, negsuc 0) ∷ [])) ∷ [])
    ∷ [])
    ∷ splitting three standing (CInj 2 0)
    ((arithmetic eq (row (pos 1) ((6, pos 1) ∷ [])) ∷ []) ∷ (arithmetic ne (row (pos 0) ((4, negsuc 0) ∷ (6, pos 1) ∷ [])) ∷ []) ∷ (same 2 0 ∷ []) ∷ [])
    ∷ splitting three standing (Card (0 ∷ 1 ∷ 2 ∷ []))
    ((same 0 1 ∷ []) ∷ (same 0 2 ∷ []) ∷ (same 1 2 ∷ []) ∷ (arithmetic ge (row (negsuc 0) ((1, pos 1) ∷ [])) ∷ []) ∷ [])
    ∷ splitting three standing (Join 8 9) ((arithmetic eq (row (negsuc 3) ((0, pos 1) ∷ [])) ∷ []) ∷ [])
    -- a literal of two characters has code −1
    ∷ splitting three (is_literal 0 2 ∷ []) (CCollapse 0) ((arithmetic eq (row (pos 1) ((4, pos 1) ∷ [])) ∷ []) ∷ [])
    -- two literals meet
    ∷ splitting three (is_literal 0 1 ∷ is_literal 0 2 ∷ []) SConf []
    -- three strings over two characters have at least 2 each; over one there is no last child
    ∷ splitting (record { n = 2; p = 3; q = 1; literals = []; constraints = [] }) standing (Card (0 ∷ 1 ∷ 2 ∷ []))
    ((same 0 1 ∷ []) ∷ (same 0 2 ∷ []) ∷ (same 1 2 ∷ []) ∷ (arithmetic ge (row (negsuc 1) ((1, pos 1) ∷ [])) ∷ []) ∷ [])
    ∷ splitting (record { n = 1; p = 3; q = 1; literals = []; constraints = [] }) standing (Card (0 ∷ 1 ∷ [])) ((same 0 1 ∷ []) ∷ [])
    ∷ []

-- ---- each limit at its end and one past it

-- with buffers that are just large enough
abbrev pub outcome : List (List ℕ) → Outcome → Pin
outcome rs o = checking 6400 4268 (ticket rs) o

-- a question of one head, then claim 1 and the end: 11 where the head is in range
abbrev pub headed : ℕ → ℕ → ℕ → Outcome → Pin
headed n p q o = outcome (head_record n p q ∷ claim_record 1 ∷ end_record ∷ []) o

-- k different texts of one character
unfoldable pub texts_to : ℕ → List (List ℕ)
texts_to zero = []
texts_to (suc k) = texts_to k ++ (literal_record (k ∷ []) ∷ [])

-- the first k columns, each with coefficient 1
unfoldable pub columns_to : ℕ → List (ℕ × ℤ)
columns_to zero = []
columns_to (suc k) = columns_to k ++ ((k, pos 1) ∷ [])

unfoldable pub numbers_to : ℕ → List ℕ
numbers_to zero = []
numbers_to (suc k) = numbers_to k ++ (k ∷ [])

-- one step under claim 1, or claim 2, over three strings and one integer, after i0 ≥ 0: record 3
abbrev pub proving : List ℕ → Outcome → Pin
proving step o = outcome (head_record 100 3 1 ∷ arithmetic_fields 0 (pos 0) ((0, pos 1) ∷ []) ∷ claim_record 1 ∷ step ∷ end_record ∷ []) o

abbrev pub taking : List ℕ → Outcome → Pin
taking step o = outcome (head_record 100 3 1 ∷ arithmetic_fields 0 (pos 0) ((0, pos 1) ∷ []) ∷ claim_record 2 ∷ step ∷ end_record ∷ []) o

-- a model of one string of a length, and one integer
abbrev pub modelled : ℕ → ℤ → Outcome → Pin
modelled l z o = outcome (head_record 100 1 1 ∷ claim_record 2 ∷ model_record (z ∷ pos l ∷ negsuc 0 ∷ []) ∷ end_record ∷ []) o

-- buffers and the ticket's bytes
abbrev pub sizes : List Pin
sizes =
    checking 6399 4268 [] (Refused 1 0)
    ∷ checking 6400 4267 [] (Refused 1 0)
    ∷ checking 6400 4268 [] (Refused 3 0)
    ∷ checking 6400 4268 (replicate 32768 0) (Refused 4 0)
    ∷ checking 6400 4268 (replicate 32769 0) (Refused 2 0)
    ∷ []

-- the head
abbrev pub heads : List Pin
heads =
    headed 0 0 0 (Refused 6 0)
    ∷ headed 1 0 0 (Refused 11 2)
    ∷ headed 196608 16 16 (Refused 11 2)
    ∷ headed 196609 0 0 (Refused 6 0)
    ∷ headed 1 17 0 (Refused 6 0)
    ∷ headed 1 0 17 (Refused 6 0)
    ∷ []

-- literals: how many, how long, which characters
abbrev pub literals : List Pin
literals =
    outcome (head_record 100 0 0 ∷ (texts_to 15 ++ (claim_record 1 ∷ end_record ∷ []))) (Refused 11 17)
    ∷ outcome (head_record 100 0 0 ∷ (texts_to 16 ++ (claim_record 1 ∷ end_record ∷ []))) (Refused 4 16)
    ∷ outcome (head_record 100 0 0 ∷ literal_record (replicate 64 99) ∷ claim_record 1 ∷ end_record ∷ []) (Refused 11 3)
    ∷ outcome (head_record 100 0 0 ∷ literal_record (replicate 65 99) ∷ claim_record 1 ∷ end_record ∷ []) (Refused 5 1)
    ∷ outcome (head_record 100 0 0 ∷ literal_record [] ∷ claim_record 1 ∷ end_record ∷ []) (Refused 5 1)
    ∷ outcome (head_record 100 0 0 ∷ literal_record (100 ∷ []) ∷ claim_record 1 ∷ end_record ∷ []) (Refused 6 1)
    ∷ outcome (head_record 100 0 0 ∷ literal_record (1 ∷ []) ∷ literal_record (1 ∷ []) ∷ []) (Refused 7 2)
    ∷ []

-- string constraints: relation, variable, literal
abbrev pub strings : List Pin
strings =
    outcome (head_record 100 2 0 ∷ string_record 1 1 0 ∷ string_record 2 1 0 ∷ claim_record 1 ∷ end_record ∷ []) (Refused 11 4)
    ∷ outcome (head_record 100 2 0 ∷ string_record 3 0 0 ∷ claim_record 1 ∷ end_record ∷ []) (Refused 6 1)
    ∷ outcome (head_record 100 2 0 ∷ string_record 0 0 2 ∷ claim_record 1 ∷ end_record ∷ []) (Refused 6 1)
    ∷ outcome (head_record 100 2 0 ∷ string_record 2 0 1 ∷ claim_record 1 ∷ end_record ∷ []) (Refused 6 1)
    ∷ []

-- arithmetic constraints: 48 pairs, numbers, relation, columns that rise
abbrev pub forms : List Pin
forms =
    outcome (head_record 100 16 16 ∷ arithmetic_fields 0 (pos 0) (columns_to 48) ∷ claim_record 1 ∷ end_record ∷ []) (Refused 11 3)
    ∷ outcome (head_record 100 16 16 ∷ arithmetic_fields 0 (pos 0) (columns_to 49) ∷ claim_record 1 ∷ end_record ∷ []) (Refused 5 1)
    ∷ outcome (head_record 100 0 1 ∷ arithmetic_fields 2 (pos 1000000000) ((0, negsuc 999999999) ∷ []) ∷ claim_record 1 ∷ end_record ∷ []) (Refused 11 3)
    ∷ outcome (head_record 100 0 1 ∷ arithmetic_fields 2 (pos 1000000001) [] ∷ claim_record 1 ∷ end_record ∷ []) (Refused 6 1)
    ∷ outcome (head_record 100 0 1 ∷ arithmetic_fields 2 (pos 0) ((0, negsuc 1000000000) ∷ []) ∷ claim_record 1 ∷ end_record ∷ []) (Refused 6 1)
    ∷ outcome (head_record 100 0 1 ∷ arithmetic_fields 3 (pos 0) [] ∷ claim_record 1 ∷ end_record ∷ []) (Refused 6 1)
    ∷ outcome (head_record 100 0 2 ∷ arithmetic_fields 0 (pos 0) ((1, pos 1) ∷ (1, pos 1) ∷ []) ∷ claim_record 1 ∷ end_record ∷ []) (Refused 6 1)
    ∷ outcome (head_record 100 0 2 ∷ arithmetic_fields 0 (pos 0) ((2, pos 1) ∷ []) ∷ claim_record 1 ∷ end_record ∷ []) (Refused 6 1)
    ∷ outcome (head_record 100 0 2 ∷ arithmetic_fields 0 (pos 0) ((1, pos 0) ∷ []) ∷ claim_record 1 ∷ end_record ∷ []) (Refused 6 1)
    ∷ []

-- 128 constraints, and 128 facts on a branch
abbrev pub counts : List Pin
counts =
    outcome (head_record 100 1 0 ∷ (replicate 128 (string_record 0 0 0) ++ (claim_record 1 ∷ end_record ∷ []))) (Refused 11 130)
    ∷ outcome (head_record 100 1 0 ∷ (replicate 129 (string_record 0 0 0) ++ (claim_record 1 ∷ end_record ∷ []))) (Refused 10 129)
    ∷ outcome (head_record 100 1 0 ∷ (replicate 127 (string_record 0 0 0) ++ (claim_record 1 ∷ step_fields (8 ∷ 0 ∷ 0 ∷ []) ∷ end_record ∷ []))) (Refused 11 130)
    ∷ outcome (head_record 100 1 0 ∷ (replicate 128 (string_record 0 0 0) ++ (claim_record 1 ∷ step_fields (8 ∷ 0 ∷ 0 ∷ []) ∷ end_record ∷ []))) (Refused 10 130)
    ∷ []

-- the claim
abbrev pub claims : List Pin
claims =
    outcome (head_record 100 0 0 ∷ claim_record 0 ∷ end_record ∷ []) (Refused 6 1)
    ∷ outcome (head_record 100 0 0 ∷ claim_record 3 ∷ end_record ∷ []) (Refused 6 1)
    ∷ []

-- Sum: 1 to 8 pairs, divisor, multiplier; at least 1 on a ≥ fact
abbrev pub sums : List Pin
sums =
    proving (sum_fields 0 1 []) (Refused 5 3)
    ∷ proving (sum_fields 0 2147483647 (replicate 8 (0, pos 1))) (Refused 8 3)
    ∷ proving (sum_fields 0 1 (replicate 8 (0, pos 1))) (Refused 11 4)
    ∷ proving (sum_fields 0 1 (replicate 9 (0, pos 1))) (Refused 5 3)
    ∷ proving (sum_fields 0 0 ((0, pos 1) ∷ [])) (Refused 6 3)
    ∷ proving (sum_fields 0 2147483648 ((0, pos 1) ∷ [])) (Refused 6 3)
    ∷ proving (sum_fields 0 1 ((0, pos 1000000000) ∷ [])) (Refused 11 4)
    ∷ proving (sum_fields 0 1 ((0, pos 1000000001) ∷ [])) (Refused 6 3)
    ∷ proving (sum_fields 0 1 ((1, pos 1) ∷ [])) (Refused 8 3)
    ∷ proving (sum_fields 0 1 ((0, pos 0) ∷ [])) (Refused 8 3)
    ∷ proving (sum_fields 0 1 ((0, negsuc 0) ∷ [])) (Refused 8 3)
    ∷ []

-- Branch: the children's numbers
abbrev pub branches : List Pin
branches =
    proving (branch_fields 0 (pos 999999999) []) (Refused 11 4)
    ∷ proving (branch_fields 0 (pos 1000000000) []) (Refused 9 3)
    ∷ taking (branch_fields 1 (pos 1000000000) []) (Refused 11 4)
    ∷ []

-- variables, and S-Prop's function
abbrev pub variables : List Pin
variables =
    proving (step_fields (8 ∷ 0 ∷ 2 ∷ [])) (Refused 11 4)
    ∷ proving (step_fields (8 ∷ 0 ∷ 3 ∷ [])) (Refused 6 3)
    ∷ proving (step_fields (6 ∷ 0 ∷ 2 ∷ 0 ∷ 1 ∷ [])) (Refused 6 3)
    ∷ proving (step_fields (6 ∷ 0 ∷ 1 ∷ 0 ∷ 1 ∷ [])) (Refused 8 3)
    ∷ []

-- Card: 2 to 16 variables
abbrev pub cards : List Pin
cards =
    outcome (head_record 100 16 0 ∷ claim_record 1 ∷ step_fields (12 ∷ 0 ∷ 3 ∷ []) ∷ end_record ∷ []) (Refused 5 2)
    ∷ outcome (head_record 100 16 0 ∷ claim_record 1 ∷ step_fields (12 ∷ 0 ∷ numbers_to 16) ∷ end_record ∷ []) (Refused 8 2)
    ∷ outcome (head_record 100 16 0 ∷ claim_record 1 ∷ step_fields (12 ∷ 0 ∷ (numbers_to 16 ++ (0 ∷ []))) ∷ end_record ∷ []) (Refused 5 2)
    ∷ []

-- child numbers: 0 under claim 1; from 1 to the number of conclusions under claim 2, and 1 where there is one or none
abbrev pub child_numbers : List Pin
child_numbers =
    proving (step_fields (8 ∷ 1 ∷ 0 ∷ [])) (Refused 6 3)
    ∷ taking (step_fields (8 ∷ 0 ∷ 0 ∷ [])) (Refused 6 3)
    ∷ taking (step_fields (8 ∷ 2 ∷ 0 ∷ [])) (Refused 11 4)
    ∷ taking (step_fields (8 ∷ 3 ∷ 0 ∷ [])) (Refused 6 3)
    ∷ taking (step_fields (10 ∷ 2 ∷ 0 ∷ [])) (Refused 11 4)
    ∷ taking (step_fields (10 ∷ 3 ∷ 0 ∷ [])) (Refused 6 3)
    ∷ taking (step_fields (11 ∷ 3 ∷ 0 ∷ 1 ∷ [])) (Refused 11 4)
    ∷ taking (step_fields (11 ∷ 4 ∷ 0 ∷ 1 ∷ [])) (Refused 6 3)
    ∷ taking (branch_fields 3 (pos 0) []) (Refused 6 3)
    ∷ taking (sum_fields 1 1 ((0, pos 1) ∷ [])) (Refused 11 4)
    ∷ taking (sum_fields 2 1 ((0, pos 1) ∷ [])) (Refused 6 3)
    ∷ taking (step_fields (5 ∷ 1 ∷ [])) (Refused 8 3)
    ∷ taking (step_fields (5 ∷ 2 ∷ [])) (Refused 6 3)
    ∷ taking (step_fields (12 ∷ 4 ∷ 0 ∷ 1 ∷ 2 ∷ [])) (Refused 8 3)
    ∷ taking (step_fields (12 ∷ 5 ∷ 0 ∷ 1 ∷ 2 ∷ [])) (Refused 6 3)
    ∷ []

-- unknown rules
abbrev pub unknown_rules : List Pin
unknown_rules =
    proving (record_bytes 6 (14 ∷ 0 ∷ 0 ∷ [])) (Refused 5 3)
    ∷ proving (step_fields (14 ∷ 0 ∷ [])) (Refused 6 3)
    ∷ proving (step_fields (0 ∷ 0 ∷ 0 ∷ 0 ∷ 0 ∷ [])) (Refused 6 3)
    ∷ []

-- 64 pending splits
abbrev pub pending_splits : List Pin
pending_splits =
    outcome (head_record 100 1 0 ∷ claim_record 1 ∷ (replicate 64 (step_fields (8 ∷ 0 ∷ 0 ∷ [])) ++ (end_record ∷ []))) (Refused 11 66)
    ∷ outcome (head_record 100 1 0 ∷ claim_record 1 ∷ (replicate 65 (step_fields (8 ∷ 0 ∷ 0 ∷ [])) ++ (end_record ∷ []))) (Refused 10 66)
    ∷ []

-- the model: lengths and values
abbrev pub models : List Pin
models =
    modelled 64 (negsuc 99999999) (strings_given (replicate 64 0 ∷ []) (negsuc 99999999 ∷ []))
    ∷ modelled 65 (pos 0) (Refused 14 2)
    ∷ modelled 2 (pos 100000001) (Refused 6 2)
    ∷ outcome (head_record 100 1 0 ∷ claim_record 2 ∷ model_record (pos 65 ∷ negsuc 0 ∷ []) ∷ []) (Refused 14 2)
    ∷ []

-- ---- two numbers at one record: the first of them is given

abbrev pub first_of_two : List Pin
first_of_two =
    -- 1 and 2; 2 and 3
    checking 0 0 (replicate 32769 0) (Refused 1 0)
    ∷ checking 6400 4268 (replicate 32768 255 ++ (255 ∷ [])) (Refused 2 0)
    -- 3 and 4: an unknown kind, cut off
    ∷ checking 6400 4268 (1 ∷ 0 ∷ 0 ∷ 0 ∷ 99 ∷ 0 ∷ []) (Refused 3 0)
    -- 4 and 5: a second head, of another length
    ∷ outcome (head_record 100 0 0 ∷ record_bytes 1 [] ∷ []) (Refused 4 1)
    -- 5 and 6: a head too long, of no character
    ∷ outcome (record_bytes 1 (replicate 9 0) ∷ []) (Refused 5 0)
    -- 6 and 8: a variable out of range, twice
    ∷ proving (step_fields (11 ∷ 0 ∷ 3 ∷ 3 ∷ [])) (Refused 6 3)
    -- 8 and 9: a column that does not divide, a constant past the limit
    ∷ outcome (head_record 100 0 1 ∷ arithmetic_fields 0 (pos 1000000000) ((0, pos 1) ∷ []) ∷ claim_record 1 ∷ sum_fields 0 2 ((0, pos 3) ∷ []) ∷ []) (Refused 8 3)
    -- 9 and 10: a number past the limit, and a 65th pending split
    ∷ outcome (head_record 100 1 0 ∷ claim_record 1 ∷ (replicate 64 (step_fields (8 ∷ 0 ∷ 0 ∷ [])) ++ (branch_fields 0 (pos 1000000000) [] ∷ []))) (Refused 9 66)
    -- 6 and 10: a 129th constraint out of range
    ∷ outcome (head_record 100 1 0 ∷ (replicate 128 (string_record 0 0 0) ++ (string_record 3 0 0 ∷ []))) (Refused 6 129)
    -- 4 and 11: a byte after the end; 5 and 11: an end with a body
    ∷ checking 6400 4268 (ticket (head_record 100 0 0 ∷ claim_record 1 ∷ end_record ∷ (0 ∷ []) ∷ [])) (Refused 4 2)
    ∷ outcome (head_record 100 0 0 ∷ claim_record 1 ∷ record_bytes 8 (0 ∷ []) ∷ []) (Refused 5 2)
    -- 6 and 12: a value past its limit that breaks a fact
    ∷ outcome (head_record 100 0 1 ∷ arithmetic_fields 0 (pos 0) ((0, negsuc 0) ∷ []) ∷ claim_record 2 ∷ model_record (pos 100000001 ∷ []) ∷ []) (Refused 6 3)
    -- 12 and 13: len(x) ≥ 1 broken by length 0, which is not settled either
    ∷ outcome (head_record 100 1 0 ∷ arithmetic_fields 0 (negsuc 0) ((0, pos 1) ∷ []) ∷ claim_record 2 ∷ model_record (pos 0 ∷ negsuc 0 ∷ []) ∷ []) (Refused 12 3)
    -- 13 and 14: length 65 with a code
    ∷ outcome (head_record 100 1 0 ∷ claim_record 2 ∷ model_record (pos 65 ∷ pos 0 ∷ []) ∷ []) (Refused 13 2)
    ∷ []

-- ---- 3 to 5 where nothing else applies, each at its record

-- a branch that closes at once, and what stands after
abbrev pub behind_closed : List (List ℕ) → Outcome → Pin
behind_closed rs o = outcome ((head_record 100 0 0 ∷ arithmetic_fields 0 (negsuc 0) [] ∷ claim_record 1 ∷ step_fields (4 ∷ 0 ∷ 0 ∷ []) ∷ []) ++ rs) o

-- a model of no columns, and what stands after
abbrev pub behind_model : List (List ℕ) → Outcome → Pin
behind_model rs o = outcome ((head_record 100 0 0 ∷ claim_record 2 ∷ model_record [] ∷ []) ++ rs) o

abbrev pub sites : List Pin
sites =
    -- "the bytes stop before a record, or before any end record, is complete"
    outcome (head_record 100 0 0 ∷ []) (Refused 3 1)
    ∷ outcome (head_record 100 0 0 ∷ claim_record 1 ∷ []) (Refused 3 2)
    ∷ outcome (head_record 100 0 0 ∷ claim_record 1 ∷ (4 ∷ 0 ∷ 0 ∷ 0 ∷ 6 ∷ 0 ∷ 5 ∷ 0 ∷ 0 ∷ []) ∷ []) (Refused 3 2)
    ∷ behind_closed [] (Refused 3 4)
    ∷ behind_model [] (Refused 3 3)
    -- "a kind is unknown or out of its place (.. an end without claim included), a step follows the last closed branch"
    ∷ outcome (claim_record 1 ∷ []) (Refused 4 0)
    ∷ outcome (head_record 100 0 0 ∷ end_record ∷ []) (Refused 4 1)
    ∷ outcome (head_record 100 0 0 ∷ claim_record 1 ∷ claim_record 1 ∷ []) (Refused 4 2)
    ∷ outcome (head_record 100 0 0 ∷ claim_record 1 ∷ model_record [] ∷ []) (Refused 4 2)
    ∷ outcome (head_record 100 1 0 ∷ arithmetic_fields 0 (pos 0) [] ∷ string_record 0 0 0 ∷ []) (Refused 4 2)
    ∷ outcome (head_record 100 1 0 ∷ record_bytes 11 (u16_bytes (0 ∷ 0 ∷ 0 ∷ [])) ∷ []) (Refused 4 1)
    ∷ behind_closed (record_bytes 6 [] ∷ []) (Refused 4 4)
    ∷ behind_model (record_bytes 6 [] ∷ []) (Refused 4 3)
    ∷ behind_model (model_record [] ∷ []) (Refused 4 3)
    -- "the body length fits no form"
    ∷ outcome (head_record 100 0 0 ∷ record_bytes 5 (1 ∷ 0 ∷ 0 ∷ []) ∷ []) (Refused 5 1)
    ∷ outcome (head_record 100 1 0 ∷ record_bytes 3 (0 ∷ 0 ∷ []) ∷ []) (Refused 5 1)
    ∷ outcome (head_record 100 0 1 ∷ claim_record 2 ∷ model_record [] ∷ []) (Refused 5 2)
    ∷ []

-- ---- judging, over one string and one integer: the answer's bytes, from its string, its integers, and what stands after

abbrev pub answering : List ℕ → List ℤ → List ℕ → Judgement → Pin
answering s zs more j =
    judged (ticket (head_record 100 1 1 ∷ end_record ∷ [])) (record_bytes 9 (character_bytes s) ++ (record_bytes 10 (integer_bytes zs) ++ (end_record ++ more))) j

abbrev pub judgements : List Pin
judgements =
    answering [] (pos 0 ∷ []) [] AllMet
    ∷ answering (replicate 64 99) (negsuc 99999999 ∷ []) [] AllMet
    ∷ answering (replicate 65 99) (pos 0 ∷ []) [] (Refusal 15 0)
    ∷ answering [] [] [] (Refusal 15 0)
    ∷ answering [] (pos 0 ∷ pos 0 ∷ []) [] (Refusal 15 0)
    ∷ answering (1 ∷ 100 ∷ []) (pos 0 ∷ []) [] (Refusal 16 0)
    ∷ answering [] (pos 100000001 ∷ []) [] (Refusal 16 1)
    ∷ answering [] (negsuc 100000000 ∷ []) [] (Refusal 16 1)
    -- 15 and 16: a character out of range, and a byte after
    ∷ answering (100 ∷ []) (pos 0 ∷ []) (0 ∷ []) (Refusal 15 0)
    -- "one with no head before it gives 4"
    ∷ judged (ticket (end_record ∷ [])) [] (Refusal 4 0)
    -- a constraint that is not met
    ∷ judged (ticket (head_record 100 1 0 ∷ arithmetic_fields 0 (negsuc 0) ((0, pos 1) ∷ []) ∷ end_record ∷ [])) (record_bytes 9 [] ++ (record_bytes 10 [] ++ end_record)) (Unmet 0)
    ∷ []

-- ---- all of them hold

pub record RulesPinned : Type 0 where
  pub rule_numbers_law : All PinHolds rule_numbers
  pub children_of_rules_law : All PinHolds children_of_rules

pub record LimitsPinned : Type 0 where
  pub sizes : All PinHolds sizes
  pub heads : All PinHolds heads
  pub literals : All PinHolds literals
  pub strings : All PinHolds strings
  pub forms : All PinHolds forms
  pub counts : All PinHolds counts
  pub claims : All PinHolds claims
  pub sums : All PinHolds sums
  pub branches : All PinHolds branches
  pub variables : All PinHolds variables
  pub cards : All PinHolds cards
  pub child_numbers_law : All PinHolds child_numbers
  pub unknown_rules_law : All PinHolds unknown_rules
  pub pending_splits_law : All PinHolds pending_splits
  pub models : All PinHolds models

pub record OrderPinned : Type 0 where
  pub first_of_two_law : All PinHolds first_of_two
  pub sites : All PinHolds sites
  pub judgements : All PinHolds judgements
