-- Tickets written down: the bytes of a question, of steps, of a model and of a whole ticket, from values; and which values documents 01 and 02 (L3) allow, in
-- their words. Nothing here reads bytes.
use Rattle.std.specs.Prelude.{ℕ, suc, ◌+◌, ◌<◌, ◌≤◌, ◌≡◌, ◌⊎◌, true, false, length, ℤ, pos}
use mathlib.Core.List.{List, [], ◌∷◌, ◌++◌, map, flat_map}
use Rattle.lists.specs.Lists.{All, Distinct}
use Rattle.calculus.specs.Alphabet.{Over}
use Rattle.calculus.specs.Limits.{Small, alphabet_limit, variable_limit, literal_limit, length_limit, column_limit, summand_limit, number_limit, value_limit}
use Rattle.calculus.specs.LinearForms.{is_zero}
use Rattle.calculus.specs.Facts.{Question, Fact, same, not_same, is_literal, arithmetic, Branch, Relation, ge, eq, ne, Function, len, code, column_count}
use Rattle.calculus.specs.Instances.{entry}
use Rattle.calculus.specs.Steps.{Step, Sum, BranchOn, Apart, AConf, SConf, SProp, LIntro, LValid, CCollapse, CValid, CInj, Card, Join, shape}
use Rattle.calculus.specs.Extended.{Extended}
use Rattle.calculus.specs.NormalForms.{function_number, fields_of}
use Rattle.calculus.specs.Derivations.{ClosedBy, AsIfFitted}
use Rattle.format.specs.Fields.{bytes_of, unsigned, IsU16}
use Rattle.format.specs.Answer.{record_bytes, character_bytes, integer_bytes}

-- ---- fields one after another

-- a u16 for each number
unfoldable pub u16_bytes : List ℕ → List ℕ
u16_bytes vs = flat_map (bytes_of 2) vs

-- "pairs of u16 column and nonzero i32 coefficient"; "pairs (fact, i32 multiplier)"
unfoldable pub pair_bytes : List (ℕ × ℤ) → List ℕ
pair_bytes ts = flat_map (λ (t : ℕ × ℤ). bytes_of 2 t.0 ++ bytes_of 4 (unsigned t.1)) ts

-- the coefficients that are not 0, each with its column; the first of the list is that of column k
unfoldable pub terms_from : ℕ → List ℤ → List (ℕ × ℤ)
terms_from k [] = []
terms_from k (z ∷ zs) = elim (is_zero z) [ true ↦ terms_from (suc k) zs | false ↦ (k, z) ∷ terms_from (suc k) zs ]

-- "i32 constant, then 0 to 48 pairs of u16 column and nonzero i32 coefficient, columns rising strictly": of a form, which is its constant and a coefficient for
-- each column
abbrev pub form_bytes : List ℤ → List ℕ
form_bytes [] = []
form_bytes (c ∷ cs) = bytes_of 4 (unsigned c) ++ pair_bytes (terms_from 0 cs)

-- ---- the records of a question

-- "1 head, once: u32 n .., u16 p string variables, u16 q integer variables"
abbrev pub head_record : ℕ → ℕ → ℕ → List ℕ
head_record n p q = record_bytes 1 (bytes_of 4 n ++ u16_bytes (p ∷ q ∷ []))

-- "2 literal ..: 1 to 64 characters, u32 each"
abbrev pub literal_record : List ℕ → List ℕ
literal_record s = record_bytes 2 (character_bytes s)

-- "3 string constraint: u16 relation, u16 a, u16 b"
abbrev pub string_record : ℕ → ℕ → ℕ → List ℕ
string_record r x y = record_bytes 3 (u16_bytes (r ∷ x ∷ y ∷ []))

-- "4 arithmetic constraint: u16 relation (0 is ≥ 0, 1 is = 0, 2 is ≠ 0)", then a form
abbrev pub relation_number : Relation → ℕ
relation_number ge = 0
relation_number eq = 1
relation_number ne = 2

abbrev pub arithmetic_record : Relation → List ℤ → List ℕ
arithmetic_record r e = record_bytes 4 (u16_bytes (relation_number r ∷ []) ++ form_bytes e)

-- "Relation 0 is variable a ≈ variable b, 1 is a ≉ b, 2 is variable a ≈ literal b"
unfoldable pub constraint_record : Fact → List ℕ
constraint_record (same x y) = string_record 0 x y
constraint_record (not_same x y) = string_record 1 x y
constraint_record (is_literal x l) = string_record 2 x l
constraint_record (arithmetic r e) = arithmetic_record r e

-- 02, L3: "u16 function, u16 a, u16 b"
unfoldable pub extended_record : Extended → List ℕ
extended_record e = record_bytes 11 (u16_bytes (function_number e ∷ fields_of e))

-- "Kinds 1 to 4 are the question", and kind 11 after them (02, L3)
unfoldable pub question_bytes : Question → List Extended → List ℕ
question_bytes u es =
    head_record u.n u.p u.q
    ++ (flat_map literal_record u.literals ++ (flat_map constraint_record u.constraints ++ flat_map extended_record es))

-- ---- the records after the question

-- "5 claim, once: u16, 1 for no solution, 2 for strings"
abbrev pub claim_record : ℕ → List ℕ
claim_record k = record_bytes 5 (u16_bytes (k ∷ []))

-- "function (0 len, 1 code)"
abbrev pub len_or_code : Function → ℕ
len_or_code len = 0
len_or_code code = 1

-- "6 step: u16 rule, u16 child, operands"; "Operands are u16 unless named"
abbrev pub step_body : ℕ → ℕ → List ℕ → List ℕ
step_body rule child operands = u16_bytes (rule ∷ child ∷ []) ++ operands

-- the body of a step with its child field, rules 1 to 13 in their order in document 01
unfoldable pub body_of : Step → ℕ → List ℕ
body_of (Sum d ts) k = step_body 1 k (bytes_of 4 d ++ pair_bytes ts)
body_of (BranchOn e) k = step_body 2 k (form_bytes e)
body_of (Apart f) k = step_body 3 k (u16_bytes (f ∷ []))
body_of (AConf f) k = step_body 4 k (u16_bytes (f ∷ []))
body_of SConf k = step_body 5 k []
body_of (SProp f x y) k = step_body 6 k (u16_bytes (len_or_code f ∷ x ∷ y ∷ []))
body_of (LIntro x) k = step_body 7 k (u16_bytes (x ∷ []))
body_of (LValid x) k = step_body 8 k (u16_bytes (x ∷ []))
body_of (CCollapse x) k = step_body 9 k (u16_bytes (x ∷ []))
body_of (CValid x) k = step_body 10 k (u16_bytes (x ∷ []))
body_of (CInj x y) k = step_body 11 k (u16_bytes (x ∷ y ∷ []))
body_of (Card xs) k = step_body 12 k (u16_bytes xs)
body_of (Join f g) k = step_body 13 k (u16_bytes (f ∷ g ∷ []))

unfoldable pub step_record : Step × ℕ → List ℕ
step_record t = record_bytes 6 (body_of t.0 t.1)

unfoldable pub step_records : List (Step × ℕ) → List ℕ
step_records ts = flat_map step_record ts

-- "7 model, claim 2 only, once: an i32 for each column"
abbrev pub model_record : List ℤ → List ℕ
model_record m = record_bytes 7 (integer_bytes m)

-- "8 end, empty"
abbrev pub end_record : List ℕ
end_record = record_bytes 8 []

-- ---- whole tickets

-- what a ticket says: under claim 1 a question and steps; under claim 2 a question, steps with the child taken, and a model
pub data Content : Type 0 where
  no_solution_ticket : Question → List Step → Content
  strings_ticket : Question → List (Step × ℕ) → List ℤ → Content

-- "Under claim 1 the child field is 0"
abbrev pub with_child_zero : List Step → List (Step × ℕ)
with_child_zero sts = map (λ st. (st, 0)) sts

-- a ticket's beginning: the question, the claim and some steps
abbrev pub beginning : Question → ℕ → List (Step × ℕ) → List ℕ
beginning u claim ts = question_bytes u [] ++ (claim_record claim ++ step_records ts)

-- "record from 0": the number of the one after the head, the literals, the constraints, the claim and these steps
abbrev pub record_behind : {A : Type 0} → Question → List A → ℕ
record_behind u steps = 2 + length u.literals + length u.constraints + length steps

unfoldable pub written : Content → List ℕ
written (no_solution_ticket u sts) = beginning u 1 (with_child_zero sts) ++ end_record
written (strings_ticket u ts m) = beginning u 2 ts ++ (model_record m ++ end_record)

-- ---- the values that document 01 allows

-- the number of a string variable
abbrev pub Variable : Question → ℕ → Type 0
Variable u x = x < u.p

-- "Coefficients, constants and multipliers lie within ±1,000,000,000, ends included"; coefficients for the question's columns alone
pub record FormInRange (u : Question) (e : List ℤ) : Type 0 where
  pub size : length e ≡ suc column_limit
  pub numbers : All (Small number_limit) e
  pub columns : (j : ℕ) → column_count u ≤ j → entry e (suc j) ≡ pos 0

-- "1 to 64 characters, u32 each, below n"
pub record LiteralInRange (n : ℕ) (s : List ℕ) : Type 0 where
  pub some_character : 1 ≤ length s
  pub few_characters : length s ≤ length_limit
  pub below : Over n s

-- "variable a ≈ variable b", "a ≉ b", "variable a ≈ literal b", where literal 0 is defined too; "a may equal b"
unfoldable pub ConstraintInRange : Question → Fact → Type 0
ConstraintInRange u (same x y) = Variable u x × Variable u y
ConstraintInRange u (not_same x y) = Variable u x × Variable u y
ConstraintInRange u (is_literal x l) = Variable u x × (l ≤ length u.literals)
ConstraintInRange u (arithmetic r e) = FormInRange u e

-- "They stand in order of kind": after an arithmetic constraint there are arithmetic ones alone
abbrev pub IsArithmetic : Fact → Type 0
IsArithmetic (same x y) = ⊥
IsArithmetic (not_same x y) = ⊥
IsArithmetic (is_literal x l) = ⊥
IsArithmetic (arithmetic r e) = Unit {0}

unfoldable pub InOrderOfKind : Branch → Type 0
InOrderOfKind [] = Unit {0}
InOrderOfKind (f ∷ fs) = (IsArithmetic f → All IsArithmetic fs) × InOrderOfKind fs

-- "u32 n (1 to 196,608), u16 p string variables, u16 q integer variables (each 0 to 16)"; "2 literal, 0 to 15 of them", of which none "repeats"
pub record QuestionInRange (u : Question) : Type 0 where
  pub some_character : 1 ≤ u.n
  pub few_characters : u.n ≤ alphabet_limit
  pub few_strings : u.p ≤ variable_limit
  pub few_integers : u.q ≤ variable_limit
  pub few_literals : length u.literals ≤ literal_limit
  pub literals : All (LiteralInRange u.n) u.literals
  pub different_literals : Distinct u.literals
  pub constraints : All (ConstraintInRange u) u.constraints
  pub in_order : InOrderOfKind u.constraints

-- "i32 divisor of at least 1, then 1 to 8 pairs (fact, i32 multiplier)"
pub record SumInRange (d : ℕ) (ts : List (ℕ × ℤ)) : Type 0 where
  pub divisor : 1 ≤ d
  pub divisor_held : d < 2147483648
  pub some_pair : 1 ≤ length ts
  pub few_pairs : length ts ≤ summand_limit
  pub pairs : All (λ t. IsU16 t.0 × Small number_limit t.1) ts

-- the operands of a step; whether variables that are to differ do, whether a fact is on the branch, and a multiplier of 0, are matters of fitting (8)
unfoldable pub OperandsInRange : Question → Step → Type 0
OperandsInRange u (Sum d ts) = SumInRange d ts
OperandsInRange u (BranchOn e) = FormInRange u e
OperandsInRange u (Apart k) = IsU16 k
OperandsInRange u (AConf k) = IsU16 k
OperandsInRange u SConf = Unit {0}
OperandsInRange u (SProp f x y) = Variable u x × Variable u y
OperandsInRange u (LIntro x) = Variable u x
OperandsInRange u (LValid x) = Variable u x
OperandsInRange u (CCollapse x) = Variable u x
OperandsInRange u (CValid x) = Variable u x
OperandsInRange u (CInj x y) = Variable u x × Variable u y
-- "2 to 16 different variables"
OperandsInRange u (Card xs) = (2 ≤ length xs) × (length xs ≤ variable_limit) × All (Variable u) xs
OperandsInRange u (Join j k) = IsU16 j × IsU16 k

-- "the child taken, from 1; it is 1 for a rule with one conclusion or none"
pub record ChildInRange (u : Question) (t : Step × ℕ) : Type 0 where
  pub from_one : 1 ≤ t.1
  pub a_child : (t.1 ≤ length (shape u.n t.0)) ⊎ (t.1 ≡ 1)

-- "u16 rule, u16 child, operands" of a step under claim 2
abbrev pub TakenInRange : Question → Step × ℕ → Type 0
TakenInRange u t = OperandsInRange u t.0 × ChildInRange u t

-- "an i32 for each column, within ±100,000,000"
pub record ModelInRange (u : Question) (m : List ℤ) : Type 0 where
  pub size : length m ≡ column_count u
  pub numbers : All (Small value_limit) m

-- no "step follows the last closed branch": no beginning of the steps that has a step after it is a whole tree, each taken as if it fitted; the number that a
-- branch begins with does not matter there
abbrev pub NoStepPast : Question → List Step → Type 0
NoStepPast u sts = (first others : List Step) → sts ≡ first ++ others → ClosedBy (AsIfFitted u.n) ◌+◌ 0 first → others ≡ []

-- what a ticket of proper form may say: its steps need neither fit nor close
unfoldable pub InRange : Content → Type 0
InRange (no_solution_ticket u sts) = QuestionInRange u × All (OperandsInRange u) sts × NoStepPast u sts
InRange (strings_ticket u ts m) = QuestionInRange u × All (TakenInRange u) ts × ModelInRange u m
