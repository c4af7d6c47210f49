-- The question: "Kinds 1 to 4 are the question"; judging takes kind 11 besides (02, L3). It is read until the six leading bytes of the first claim or end record.
use Rattle.std.specs.Prelude.{ℕ, zero, suc, ◌+◌, ◌*◌, ◌-◌, ◌/◌, ◌%◌, Bool, true, false, cond, not, ◌&&◌, ◌||◌, List, [], ◌∷◌, ◌++◌, length, set, ltb, leb, eqb, ℤ, nat_abs}
use Rattle.std.proofs.Math.Option.{Option, none, some}
use Rattle.calculus.specs.LinearForms.{zeros}
use Rattle.calculus.specs.Facts.{Question, Fact, same, not_same, is_literal, arithmetic, Relation, ge, eq, ne, blank, column_count}
use Rattle.calculus.specs.Alphabet.{all_characters}
use Rattle.calculus.specs.Strings.{given}
use Rattle.calculus.specs.Extended.{Extended, is_upper, is_lower, is_value, is_decimal, in_order}
use Rattle.calculus.specs.Limits.{ticket_bytes, alphabet_limit, variable_limit, literal_limit, length_limit, column_limit, number_limit, fact_limit}
use Rattle.format.specs.Fields.{u16, u32, i32, u32s, pairs_at, within}
use Rattle.format.specs.Records.{size, kind, whole, records, need}

-- ---- kinds and their order

-- the kinds of the question's records
abbrev pub head_kind : ℕ
head_kind = 1

abbrev pub literal_kind : ℕ
literal_kind = 2

abbrev pub string_kind : ℕ
string_kind = 3

abbrev pub arithmetic_kind : ℕ
arithmetic_kind = 4

abbrev pub extended_kind : ℕ
extended_kind = 11

-- "They stand in order of kind": the ranks of the records in this order; 0 stands before the head
abbrev pub head_rank : ℕ
head_rank = 1

abbrev pub literal_rank : ℕ
literal_rank = 2

abbrev pub string_rank : ℕ
string_rank = 3

abbrev pub arithmetic_rank : ℕ
arithmetic_rank = 4

-- "kind 11 after kind 4"
abbrev pub extended_rank : ℕ
extended_rank = 5

-- the rank of a kind, 0 for a kind that has no place in a question
unfoldable pub rank_of : ℕ → ℕ
rank_of k =
    cond (eqb k head_kind) head_rank
    (cond (eqb k literal_kind) literal_rank
    (cond (eqb k string_kind) string_rank
    (cond (eqb k arithmetic_kind) arithmetic_rank
    (cond (eqb k extended_kind) extended_rank
    0))))

-- constraints stand after the literals, extended ones too
abbrev pub is_constraint : ℕ → Bool
is_constraint r = ltb literal_rank r

-- by a record's rank: what holds for a head, for a literal, for a constraint of kind 3 or 4, and for an extended one; a rank without a place is refused before
abbrev pub by_rank : {A : Type 0} → ℕ → A → A → A → A → A
by_rank r head literal constraint extended = cond (eqb r head_rank) head (cond (eqb r literal_rank) literal (cond (eqb r extended_rank) extended constraint))

-- what was read so far: the rank of the last record, 0 before the head, the question, and the extended constraints
pub record Progress : Type 0 where
  pub last : ℕ
  pub question : Question
  pub extended : List Extended

abbrev pub unread : Progress
unread = record { last = 0; question = blank 0 0 0; extended = [] }

-- how many constraints of all kinds: extended ones are "counted as constraints"
abbrev pub constraint_count : Progress → ℕ
constraint_count s = length s.question.constraints + length s.extended

abbrev pub with_literal : Question → List ℕ → Question
with_literal u s = record { n = u.n; p = u.p; q = u.q; literals = u.literals ++ (s ∷ []); constraints = u.constraints }

abbrev pub with_fact : Question → Fact → Question
with_fact u f = record { n = u.n; p = u.p; q = u.q; literals = u.literals; constraints = u.constraints ++ (f ∷ []) }

-- ---- the bodies: their refusals and what they say. A body is its position and its length.

-- "1 head, once: u32 n (1 to 196,608), u16 p string variables, u16 q integer variables (each 0 to 16)"
abbrev pub head_range : List ℕ → ℕ → Bool
head_range b at = leb 1 (u32 b at) && (leb (u32 b at) alphabet_limit && (leb (u16 b (at + 4)) variable_limit && leb (u16 b (at + 6)) variable_limit))

abbrev pub head_fault : List ℕ → ℕ → ℕ → ℕ
head_fault b at m = need 5 (eqb m 8) (need 6 (head_range b at) 0)

abbrev pub head_of : List ℕ → ℕ → Question
head_of b at = blank (u32 b at) (u16 b (at + 4)) (u16 b (at + 6))

-- "2 literal, 0 to 15 of them: 1 to 64 characters, u32 each, below n"; "7 when a literal repeats"
abbrev pub text_of : List ℕ → ℕ → ℕ → List ℕ
text_of b at m = u32s b at (m / 4)

abbrev pub literal_length : ℕ → Bool
literal_length m = leb 4 m && (leb m (4 * length_limit) && eqb (m % 4) 0)

abbrev pub literal_fault : List ℕ → ℕ → List (List ℕ) → ℕ → ℕ → ℕ
literal_fault b n ls at m =
    need 5 (literal_length m)
    (need 6 (all_characters n (text_of b at m))
    (need 7 (not (given (text_of b at m) ls)) 0))

-- a body of three u16 fields that are to be in a range
abbrev pub three_fault : (ℕ → ℕ → ℕ → Bool) → List ℕ → ℕ → ℕ → ℕ
three_fault range b at m = need 5 (eqb m 6) (need 6 (range (u16 b at) (u16 b (at + 2)) (u16 b (at + 4))) 0)

-- "3 string constraint: u16 relation, u16 a, u16 b. Relation 0 is variable a ≈ variable b, 1 is a ≉ b, 2 is variable a ≈ literal b":
-- over p string variables and k literals besides the empty one
abbrev pub string_range : ℕ → ℕ → ℕ → ℕ → ℕ → Bool
string_range p k r x y = leb r 2 && (ltb x p && cond (eqb r 2) (leb y k) (ltb y p))

-- any relation past 2 is out of range
abbrev pub string_fact : ℕ → ℕ → ℕ → Fact
string_fact zero x y = same x y
string_fact (suc zero) x y = not_same x y
string_fact (suc (suc r)) x y = is_literal x y

abbrev pub string_fault : List ℕ → ℕ → ℕ → ℕ → ℕ → ℕ
string_fault b p k at m = three_fault (string_range p k) b at m

-- "pairs of u16 column and nonzero i32 coefficient, columns rising strictly": the first column at least low, all below c
abbrev pub coefficient_in_range : ℤ → Bool
coefficient_in_range z = ltb 0 (nat_abs z) && within number_limit z

abbrev pub pair_in_range : ℕ → ℕ → ℕ × ℤ → Bool
pair_in_range c low t = leb low t.0 && (ltb t.0 c && coefficient_in_range t.1)

unfoldable pub rising : ℕ → ℕ → List (ℕ × ℤ) → Bool
rising c low [] = true
rising c low (t ∷ ts) = pair_in_range c low t && rising c (t.0 + 1) ts

-- a form: an i32 constant, then pairs
abbrev pub form_range : List ℕ → ℕ → ℕ → ℕ → Bool
form_range b c at count = within number_limit (i32 b at) && rising c 0 (pairs_at b (at + 4) count)

unfoldable pub fill_coefficients : List ℤ → List (ℕ × ℤ) → List ℤ
fill_coefficients row [] = row
fill_coefficients row (t ∷ ts) = fill_coefficients (set row t.0 t.1) ts

abbrev pub form_of : List ℕ → ℕ → ℕ → List ℤ
form_of b at count = i32 b at ∷ fill_coefficients (zeros column_limit) (pairs_at b (at + 4) count)

-- "u16 relation (0 is ≥ 0, 1 is = 0, 2 is ≠ 0)"; any number past 2 is out of range
abbrev pub relation_of : ℕ → Relation
relation_of zero = ge
relation_of (suc zero) = eq
relation_of (suc (suc r)) = ne

-- "4 arithmetic constraint: u16 relation .., i32 constant, then 0 to 48 pairs"; over c columns
abbrev pub arithmetic_fault : List ℕ → ℕ → ℕ → ℕ → ℕ
arithmetic_fault b c at m =
    need 5 (leb 6 m && (eqb (m % 6) 0 && leb (m / 6) (suc column_limit)))
    (need 6 (leb (u16 b at) 2 && form_range b c (at + 2) (m / 6 - 1)) 0)

-- "u16 function, u16 a, u16 b": function 2 takes an integer variable for a, function 3 for b, and all others string variables; over p string and q integer
-- variables
abbrev pub extended_range : ℕ → ℕ → ℕ → ℕ → ℕ → Bool
extended_range p q f x y = leb f 4 && (ltb x (cond (eqb f 2) q p) && ltb y (cond (eqb f 3) q p))

abbrev pub extended_fault : List ℕ → ℕ → ℕ → ℕ → ℕ → ℕ
extended_fault b p q at m = three_fault (extended_range p q) b at m

-- "0, string a is b in upper case ..; 1, string a is b in lower case; 2, integer a is b read in decimal ..; 3, string a is integer b in decimal ..; 4, string a
-- is equal to or before string b"; any function past 4 is out of range
abbrev pub extended_by : ℕ → ℕ → ℕ → Extended
extended_by zero x y = is_upper x y
extended_by (suc zero) x y = is_lower x y
extended_by (suc (suc zero)) x y = is_value x y
extended_by (suc (suc (suc zero))) x y = is_decimal x y
extended_by (suc (suc (suc (suc f)))) x y = in_order x y

abbrev pub extended_of : List ℕ → ℕ → Extended
extended_of b at = extended_by (u16 b at) (u16 b (at + 2)) (u16 b (at + 4))

-- ---- the constraints of kinds 3 and 4: a kind has one row in each of the two

-- the first of 5 and 6 that applies to the body of a constraint of kind k, over p string variables, l literals besides the empty one and c columns; 4 for every
-- other kind
unfoldable pub fact_fault : List ℕ → ℕ → ℕ → ℕ → ℕ → ℕ → ℕ → ℕ
fact_fault b p l c k at m =
    cond (eqb k string_kind) (string_fault b p l at m)
    (cond (eqb k arithmetic_kind) (arithmetic_fault b c at m)
    4)

-- what the body says where it has no fault; a kind without a row here is read as arithmetic, and kinds other than 3 and 4 have a fault
abbrev pub body_fact : List ℕ → ℕ → ℕ → ℕ → Fact
body_fact b k at m =
    cond (eqb k string_kind) (string_fact (u16 b at) (u16 b (at + 2)) (u16 b (at + 4)))
    (arithmetic (relation_of (u16 b at)) (form_of b (at + 2) (m / 6 - 1)))

-- ---- how a question is read

pub record Manner : Type 0 where
  -- whether 10 is looked for
  pub limited : Bool
  -- the greatest rank that is taken: a kind of a greater one is out of its place
  pub greatest : ℕ

-- "10 when facts .. would pass theirs"
abbrev pub checking_manner : Manner
checking_manner = record { limited = true; greatest = arithmetic_rank }

-- "2 to 7 and 10 for the question"; "Checking and the operation of L2 still refuse kind 11 with 4" (02, L3), so judging alone takes it
abbrev pub judging_manner : Manner
judging_manner = record { limited = true; greatest = extended_rank }

-- proper form asks for "none of 2 to 7", of the kinds that checking takes; so does what a ticket will need: "It never gives 10" (02, L2)
abbrev pub form_manner : Manner
form_manner = record { limited = false; greatest = arithmetic_rank }

-- ---- one record

-- "They stand in order of kind"; "4 when a kind is unknown or out of its place (a 16th literal .. included)": a record of rank r after the rank last and so
-- many literals, where ranks up to the greatest are taken
abbrev pub rank_in_place : ℕ → ℕ → ℕ → ℕ → Bool
rank_in_place greatest last literals r =
    cond (eqb r head_rank) (eqb last 0)
    (leb head_rank last && (leb literal_rank r && (leb last r && (leb r greatest && (not (eqb r literal_rank) || ltb literals literal_limit)))))

abbrev pub in_place : ℕ → Progress → ℕ → Bool
in_place greatest s k = rank_in_place greatest s.last (length s.question.literals) (rank_of k)

-- the first of 5 to 7 that applies to a body of kind k, of m bytes at a position; 4 for a kind without a place
abbrev pub question_body_fault : List ℕ → Question → ℕ → ℕ → ℕ → ℕ
question_body_fault b u k at m =
    by_rank (rank_of k)
    (head_fault b at m)
    (literal_fault b u.n u.literals at m)
    (fact_fault b u.p (length u.literals) (column_count u) k at m)
    (extended_fault b u.p u.q at m)

-- the first of 3 to 7 that applies to the record at a position, 0 for none
unfoldable pub form_fault : ℕ → List ℕ → Progress → ℕ → ℕ
form_fault greatest b s at = need 3 (whole b at) (need 4 (in_place greatest s (kind b at)) (question_body_fault b s.question (kind b at) (at + 6) (size b at)))

-- "At most 128 facts stand on a branch": where 10 is looked for, a constraint of any kind must find room after those before it
abbrev pub room_for : Bool → ℕ → ℕ → Bool
room_for limited r constraints = not limited || (not (is_constraint r) || ltb constraints fact_limit)

abbrev pub finds_room : Manner → Progress → ℕ → Bool
finds_room m s k = room_for m.limited (rank_of k) (constraint_count s)

-- 10 after the numbers of the form
abbrev pub or_crowded : ℕ → Bool → ℕ
or_crowded zero room = need 10 room 0
or_crowded (suc c) room = suc c

-- the first number that applies to the record at a position in a manner of reading, 0 for none
unfoldable pub question_fault : Manner → List ℕ → Progress → ℕ → ℕ
question_fault m b s at = or_crowded (form_fault m.greatest b s at) (finds_room m s (kind b at))

-- the question and the extended constraints after a record of kind k that has no fault
abbrev pub question_after : List ℕ → Question → ℕ → ℕ → ℕ → Question
question_after b u k at m = by_rank (rank_of k) (head_of b at) (with_literal u (text_of b at m)) (with_fact u (body_fact b k at m)) u

abbrev pub extended_after : List ℕ → List Extended → ℕ → ℕ → List Extended
extended_after b es k at = by_rank (rank_of k) [] es es (es ++ (extended_of b at ∷ []))

unfoldable pub question_advanced : List ℕ → Progress → ℕ → Progress
question_advanced b s at = record {
  last = rank_of (kind b at);
  question = question_after b s.question (kind b at) (at + 6) (size b at);
  extended = extended_after b s.extended (kind b at) (at + 6);
}

-- ---- the whole question

-- Stopped: the refusal's number and record. Ended: what was read, and the position and the record where reading ended.
pub data Reading : Type 0 where
  Stopped : ℕ → ℕ → Reading
  Ended : Progress → ℕ → ℕ → Reading

-- "reading ends at the six leading bytes of the first claim or end record"
abbrev pub ending : ℕ → Bool
ending k = eqb k 5 || eqb k 8

-- reading on by a test of records, with the next record's number and the positions of the records left
unfoldable pub read_from : (List ℕ → Progress → ℕ → ℕ) → List ℕ → Progress → ℕ → List ℕ → Reading
read_from test b s r [] = Stopped 3 r
read_from test b s r (at ∷ ats) = elim (ending (kind b at)) [
  | true ↦ Ended s at r
  | false ↦ elim (test b s at) [ zero ↦ read_from test b (question_advanced b s at) (suc r) ats | suc c ↦ Stopped (suc c) r ]
]

-- what is left to read from position at and record r on
abbrev pub read_on : (List ℕ → Progress → ℕ → ℕ) → List ℕ → Progress → ℕ → ℕ → Reading
read_on test b s r at = read_from test b s r (records b at)

unfoldable pub read_by : (List ℕ → Progress → ℕ → ℕ) → List ℕ → Reading
read_by test b = elim (leb (length b) ticket_bytes) [ false ↦ Stopped 2 0 | true ↦ read_on test b unread 0 0 ]

-- the question as it is read in a manner
abbrev pub read_in : Manner → List ℕ → Reading
read_in m b = read_by (question_fault m) b

abbrev pub question : List ℕ → Reading
question b = read_in checking_manner b

abbrev pub judged_question : List ℕ → Reading
judged_question b = read_in judging_manner b

abbrev pub question_form : List ℕ → Reading
question_form b = read_in form_manner b

-- a head stands before
abbrev pub head_read : Progress → Bool
head_read s = leb head_rank s.last

-- what f gives of what was read after a head
abbrev pub headed_in : {A : Type 0} → (Progress → A) → Reading → Option A
headed_in f (Stopped c r) = none
headed_in f (Ended s at r) = cond (head_read s) (some (f s)) none

abbrev pub question_in : Reading → Option Question
question_in g = headed_in (λ s. s.question) g

-- the question with its extended constraints, as judging takes it
abbrev pub judged_in : Reading → Option (Question × List Extended)
judged_in g = headed_in (λ s. (s.question, s.extended)) g

-- by whether there is a head, "one with no head before it gives 4": what is said of that refusal, or of the question with its extended constraints
abbrev pub by_head : {A : Type 0} → (ℕ → ℕ → A) → (Question → List Extended → A) → Progress → ℕ → Bool → A
by_head refused asked s r false = refused 4 r
by_head refused asked s r true = asked s.question s.extended

-- and by how the question was read
abbrev pub by_reading : {A : Type 0} → (ℕ → ℕ → A) → (Question → List Extended → A) → Reading → A
by_reading refused asked (Stopped c r) = refused c r
by_reading refused asked (Ended s at r) = by_head refused asked s r (head_read s)

-- the question that bytes put: none without a head
abbrev pub question_of : List ℕ → Option Question
question_of b = question_in (question_form b)
