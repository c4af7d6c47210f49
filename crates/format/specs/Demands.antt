-- The demands as statements about bytes. Th1 is what checking promises of its result and the lent buffers. All others are theorems about the definitions, for every
-- list of bytes: Th1Small and on, ThForm, ThPut, ThAsked and ThRefusals say in words what is refused and what is read; Th2 to Th6 are demands 2 and 3; ThL1
-- and on those of the change requests (02). The code's promises that are not on this page: checking's, checking/specs `Promised` by Th1, and what follows from it,
-- checking/specs `Theory`; judging's, judging/specs `Finds` (what Th3 and ThL1 speak of); a ticket's need and the sameness of questions, equations with `needed`
-- and `sameness`, in needs/src and sameness/src; the replies of the entries in C, nuldwich/specs/Replies; the program's lines, lines/specs/Reports.
use Rattle.std.specs.Prelude.{ℕ, ◌+◌, ◌*◌, ◌/◌, ◌%◌, ◌^◌, ◌<◌, ◌≤◌, ◌≡◌, true, false, cond, ◌≢◌, ◌⊎◌, List, [], ◌∷◌, ◌++◌, map, length, take, drop, replicate, get_or, eqb, ℤ, pos, negsuc, nat_abs}
use Rattle.std.proofs.Math.Option.{some}
use Rattle.std.proofs.Math.ListN.{get_elem?}
use Rattle.lists.specs.Lists.{All}
use Rattle.calculus.specs.Logic.{Iff}
use Rattle.calculus.specs.Alphabet.{Over}
use Rattle.calculus.specs.Limits.{Small, work_numbers, ticket_bytes, length_limit, value_limit, answer_bytes, fact_limit, pending_limit}
use Rattle.calculus.specs.LinearForms.{scale}
use Rattle.calculus.specs.Facts.{Question, Fact, Branch, Relation, ge, arithmetic}
use Rattle.calculus.specs.Steps.{Step, Sum, Join}
use Rattle.calculus.specs.Children.{one}
use Rattle.calculus.specs.Rules.{children, children_before}
use Rattle.calculus.specs.Instances.{HasRelation}
use Rattle.calculus.specs.Cores.{Set, chosen_from}
use Rattle.calculus.specs.Chains.{OneClass}
use Rattle.calculus.specs.Derivations.{ClosedBy, LeadsBy, Closes, Leads, AsIfFitted, WithinLimits, Path, PathWithinLimits, PathAsIfFitted}
use Rattle.calculus.specs.Settled.{Settled, MeetsArithmetic, ShortLengths}
use Rattle.calculus.specs.Given.{GivenStrings}
use Rattle.calculus.specs.Meaning.{Assignment, str, IsAssignment, Met}
use Rattle.calculus.specs.Extended.{upper, lower, to_int, from_int, Extended, Names, Constraint, constraints_of, MeetsConstraint}
use Rattle.calculus.specs.NormalForms.{divisor_of, GreatestCommonDivisor, reduced, PositiveLead, SameSets}
use Rattle.format.specs.Question.{extended_kind, Progress, Stopped, Ended, question, judged_question, question_form, head_read, judged_in}
use Rattle.format.specs.Question.{question_of}
use Rattle.format.specs.Fields.{bytes_of, IsU32, IsI32}
use Rattle.format.specs.Records.{kind, next, records}
use Rattle.format.specs.Written.{question_bytes, end_record, Content, no_solution_ticket, strings_ticket, written}
use Rattle.format.specs.Written.{QuestionInRange, InRange, TakenInRange, record_behind}
use Rattle.format.specs.Refusals.{Begins, FirstRefusal}
use Rattle.format.specs.Places.{constraint_at}
use Rattle.format.specs.Answer.{encode, assignment_of}
use Rattle.format.specs.Checking.{Outcome, Refused, NoSolution, Strings, verdict, verdict_before}
use Rattle.format.specs.Needs.{NeedRefused, Needs, Report, needed}
use Rattle.format.specs.ProperForm.{ProperNoSolution, ProperStrings, steps, steps_with_child, claim_in}
use Rattle.format.specs.Cores.{core_of, flag, low, high}
use Rattle.format.specs.Judging.{Submission, Rejected, Submitted, submission, Judgement, Refusal, AllMet, Unmet, said}
use Rattle.format.specs.Judging.{Side, of_question, of_answer, Shown, shown_by, part_within}
use Rattle.format.specs.Sameness.{Which, second, by_which, SameRefused, Same, Different, sameness}

-- ---- Th1, demand 1: what checking promises of its result with its set, of the work area and of the answer buffer

-- "A refusal or an accepted "no solution" writes nothing to the answer buffer, and strings write nothing past the answer's length"
abbrev pub answer_written : Outcome → List ℕ
answer_written (Refused c r) = []
answer_written NoSolution = []
answer_written (Strings a) = encode a

abbrev pub answer_after : Outcome → List ℕ → List ℕ
answer_after o answer = answer_written o ++ drop (length (answer_written o)) answer

-- "The whole work area, numbers past 6,400 too, is zero after every call, except that 1 does not touch it"
abbrev pub work_after : Outcome → List ℤ → List ℤ
work_after (Refused c r) w = cond (eqb c 1) w (replicate (length w) (pos 0))
work_after NoSolution w = replicate (length w) (pos 0)
work_after (Strings a) w = replicate (length w) (pos 0)

-- a ticket, the work area and the answer buffer before and after, the outcome, and the set that comes with it (02, L5); the contract of `check_ticket` promises it
pub record Th1 (ticket : List ℕ) (work work' : List ℤ) (answer answer' : List ℕ) (o : Outcome) (set : Set) : Type 0 where
  pub outcome : o ≡ verdict (length work) (length answer) ticket
  pub took_part : set ≡ core_of o ticket
  pub work_is : work' ≡ work_after o work
  pub answer_is : answer' ≡ answer_after o answer

-- "Buffers are large enough when 1 does not apply": it applies "when the work area has under 6,400 numbers or the answer buffer under 4,268 bytes", at record 0
abbrev pub LargeEnough : ℕ → ℕ → Type 0
LargeEnough work answer = (work_numbers ≤ work) × (answer_bytes ≤ answer)

abbrev pub Th1Small : Type 0
Th1Small = (work answer : ℕ) (t : List ℕ) (r : ℕ) → Iff (verdict work answer t ≡ Refused 1 r) ((LargeEnough work answer → ⊥) × (r ≡ 0))

-- "2 when the ticket is too long", at record 0
abbrev pub Th1Long : Type 0
Th1Long = (work answer : ℕ) (t : List ℕ) (r : ℕ) → LargeEnough work answer → Iff (verdict work answer t ≡ Refused 2 r) ((ticket_bytes < length t) × (r ≡ 0))

-- the lent buffers keep their lengths
pub record LengthsKept (o : Outcome) (work : List ℤ) (answer : List ℕ) : Type 0 where
  pub of_work : length (work_after o work) ≡ length work
  pub of_the_answer : length (answer_after o answer) ≡ length answer

abbrev pub Th1Length : Type 0
Th1Length = (t : List ℕ) (work : List ℤ) (answer : List ℕ) → LengthsKept (verdict (length work) (length answer) t) work answer

-- ---- proper form, and what is asked, in words: bytes are of proper form exactly when they are written from values in range

-- a list of bytes
abbrev pub Bytes : List ℕ → Type 0
Bytes b = All (λ k. k < 256) b

-- the bytes say this, in range: "a ticket has at most 32,768 bytes"
pub record WrittenAs (b : List ℕ) (c : Content) : Type 0 where
  pub is_in_range : InRange c
  pub bytes : b ≡ written c
  pub few : length b ≤ ticket_bytes

-- of proper form, with this question and these steps, and under claim 2 with the children taken and this model
abbrev pub FormedAs : List ℕ → Content → Type 0
FormedAs b (no_solution_ticket u sts) = ProperNoSolution b u × (steps b ≡ sts)
FormedAs b (strings_ticket u ts m) = ProperStrings b u m × (steps_with_child b ≡ ts)

-- every ticket that document 01 allows is read as what it says, and nothing else is of proper form
abbrev pub ThForm : Type 0
ThForm = (b : List ℕ) → Bytes b → (c : Content) → Iff (FormedAs b c) (WrittenAs b c)

-- bytes say one thing only
abbrev pub ThFormOne : Type 0
ThFormOne = (b : List ℕ) (c d : Content) → WrittenAs b c → WrittenAs b d → c ≡ d

-- "reading ends at the six leading bytes of the first claim or end record"
pub record Delimited (rest : List ℕ) : Type 0 where
  pub size : ℕ
  pub of_kind : ℕ
  pub more : List ℕ
  pub claim_or_end : (of_kind ≡ 5) ⊎ (of_kind ≡ 8)
  pub leading : rest ≡ bytes_of 4 size ++ (bytes_of 2 of_kind ++ more)

-- the bytes begin with this question and these extended constraints, in range, and a claim or an end follows
pub record PutsQuestion (b : List ℕ) (u : Question) (es : List Extended) : Type 0 where
  pub is_in_range : QuestionInRange u
  pub named : All (Names u) es
  pub rest : List ℕ
  pub bytes : b ≡ question_bytes u es ++ rest
  pub delimited : Delimited rest
  pub few : length b ≤ ticket_bytes

-- the question that a ticket puts, without looking for 10; and the one that judging takes, where "10 when facts .. would pass theirs" counts extended constraints too
abbrev pub ThPut : Type 0
ThPut = (b : List ℕ) → Bytes b → (u : Question) → Iff (question_of b ≡ some u) (PutsQuestion b u [])

-- the bytes ask this question with these extended constraints, as judging takes them
abbrev pub Asks : List ℕ → Question → List Extended → Type 0
Asks b u es = judged_in (judged_question b) ≡ some (u, es)

abbrev pub ThAsked : Type 0
ThAsked = (b : List ℕ) → Bytes b → (u : Question) (es : List Extended)
    → Iff (Asks b u es) (PutsQuestion b u es × (length (constraints_of u es) ≤ fact_limit))

-- ---- the refusals 8 to 14 in words: each is given at the first record to which a number applies, and is the first that applies there

abbrev pub ThRefusals : Type 0
ThRefusals = (work answer : ℕ) (t : List ℕ) → LargeEnough work answer → Bytes t → (c r : ℕ) → 8 ≤ c → c ≤ 14 → Iff (verdict work answer t ≡ Refused c r) (FirstRefusal t c r)

-- ---- Th2, demand 2: a derivation of proper form within the limits is accepted exactly when its steps are one closed tree of instances

abbrev pub Th2 : Type 0
Th2 = (work answer : ℕ) (t : List ℕ) (u : Question) → LargeEnough work answer → ProperNoSolution t u → WithinLimits u (steps t)
    → Iff (verdict work answer t ≡ NoSolution) (Closes u u.constraints (steps t))

-- what Th2 asks of a ticket holds of each that is accepted, so it leaves none out
abbrev pub Th2Covers : Type 0
Th2Covers = (work answer : ℕ) (t : List ℕ) → verdict work answer t ≡ NoSolution → (u : Question) × ProperNoSolution t u × WithinLimits u (steps t)

-- ---- Th3, demand 2: judging says what the theory says

-- an assignment meets all of some constraints, of the question and extended
abbrev pub MetAll : Question → Assignment → List Constraint → Type 0
MetAll u a cs = All (MeetsConstraint u a) cs

-- the values judged are an assignment of the question; all met is said exactly when it meets every constraint, and a constraint is named exactly when it is
-- the first that it does not meet
pub record TrueJudgement (b v : List ℕ) (j : Judgement) (u : Question) (es : List Extended) (a : Assignment) : Type 0 where
  pub asked : Asks b u es
  -- without extended constraints it is the question that the bytes put
  pub put : es ≡ [] → question_of b ≡ some u
  pub values : a ≡ assignment_of v u
  pub for_question : IsAssignment u a
  pub all_met : Iff (j ≡ AllMet) (MetAll u a (constraints_of u es))
  pub unmet : (k : ℕ) → Iff (j ≡ Unmet k)
      ((c : Constraint) × (get_elem? (constraints_of u es) k ≡ some c) × (MeetsConstraint u a c → ⊥) × MetAll u a (take k (constraints_of u es)))

abbrev pub Th3 : Type 0
Th3 = (b v : List ℕ) (u : Question) (es : List Extended) (a : Assignment) → submission b v ≡ Submitted u es a → TrueJudgement b v (said (submission b v)) u es a

-- and it judges every assignment that an answer can hold: no 15 or 16 for the bytes of one with strings of at most 64 characters and integers in range
abbrev pub Th3All : Type 0
Th3All = (b : List ℕ) (u : Question) (es : List Extended) (a : Assignment) → Asks b u es → IsAssignment u a
    → All (λ s. length s ≤ length_limit) a.strs → All (Small value_limit) a.ints → submission b (encode a) ≡ Submitted u es a

-- what is judged is exactly the bytes of an assignment in range
pub record AnswerInRange (u : Question) (a : Assignment) : Type 0 where
  pub for_question : IsAssignment u a
  -- "its characters, u32 each, 0 to 64"
  pub short : All (λ s. length s ≤ length_limit) a.strs
  -- no "integer is outside ±100,000,000"
  pub small : All (Small value_limit) a.ints

abbrev pub Th3Answers : Type 0
Th3Answers = (b v : List ℕ) (u : Question) (es : List Extended) (a : Assignment) → Bytes v → Asks b u es
    → Iff (submission b v ≡ Submitted u es a) (AnswerInRange u a × (v ≡ encode a))

-- and 15 is said exactly of bytes that no p strings of at most 64 characters and q integers are written as
abbrev pub Th3Unformed : Type 0
Th3Unformed = (b v : List ℕ) (u : Question) (es : List Extended) → Bytes v → Asks b u es
    → Iff (submission b v ≡ Rejected 15 0)
    ((a : Assignment) → length a.strs ≡ u.p → length a.ints ≡ u.q → All (λ s. length s ≤ length_limit) a.strs → v ≢ encode a)

-- what an answer of its form holds, in range or not: "one record of kind 9 for each string variable (its characters, u32 each, 0 to 64), one of kind 10 (q i32
-- values)"
pub record AnswerHeld (u : Question) (a : Assignment) : Type 0 where
  pub strings : length a.strs ≡ u.p
  pub short : All (λ s. length s ≤ length_limit) a.strs
  pub characters : All (All IsU32) a.strs
  pub integers : length a.ints ≡ u.q
  pub values : All IsI32 a.ints

-- "16 (the answer's first such record) when a character is not below n or an integer is outside ±100,000,000": record r, where the strings are records 0 to p − 1
-- and the integers record p
pub data OutsideAt (u : Question) (a : Assignment) (r : ℕ) : Type 0 where
  -- the first string that has such a character
  character : (s : List ℕ) → get_elem? a.strs r ≡ some s → (Over u.n s → ⊥) → All (Over u.n) (take r a.strs) → OutsideAt u a r
  -- every character is below n, and an integer is outside
  integer : r ≡ u.p → All (Over u.n) a.strs → (All (Small value_limit) a.ints → ⊥) → OutsideAt u a r

-- and 16 exactly of the bytes of such strings and integers of which some are out of range
abbrev pub Th3Outside : Type 0
Th3Outside = (b v : List ℕ) (u : Question) (es : List Extended) (r : ℕ) → Bytes v → Asks b u es
    → Iff (submission b v ≡ Rejected 16 r) ((a : Assignment) × AnswerHeld u a × (v ≡ encode a) × OutsideAt u a r)

-- ---- ThL1: judging shows the record concerned

-- a record of a side's bytes, by its number in reading
pub record ShowsRecord (side : Side) (bytes : List ℕ) (r : ℕ) (s : Shown) : Type 0 where
  pub side_is : s.side ≡ side
  pub from_is : get_elem? (records bytes 0) r ≡ some s.from
  pub to_is : s.to ≡ next bytes s.from

-- what is shown of the question b and the answer v lies within them, so a record shown is whole. For an unmet constraint it is the record after the head,
-- the literals and the constraints before it, which is read as that constraint; for 16 it is the answer's record of that number; for 15 the whole answer; for
-- every other outcome the empty part at the question's first byte
pub record Shows (b v : List ℕ) (g : Submission) (s : Shown) : Type 0 where
  pub lies_within : part_within (length b) (length v) s ≡ true
  pub unmet : (u : Question) (es : List Extended) (a : Assignment) (k : ℕ) → g ≡ Submitted u es a → said g ≡ Unmet k
      → ShowsRecord of_question b (1 + length u.literals + k) s × (get_elem? (constraints_of u es) k ≡ some (constraint_at b s.from))
  pub out_of_range : (r : ℕ) → said g ≡ Refusal 16 r → ShowsRecord of_answer v r s
  pub unformed : (r : ℕ) → said g ≡ Refusal 15 r → s ≡ record { side = of_answer; from = 0; to = length v }
  pub refused : (c r : ℕ) → said g ≡ Refusal c r → c ≢ 15 → c ≢ 16 → s ≡ record { side = of_question; from = 0; to = 0 }
  pub all_met : said g ≡ AllMet → s ≡ record { side = of_question; from = 0; to = 0 }

abbrev pub ThL1 : Type 0
ThL1 = (b v : List ℕ) → Shows b v (submission b v) (shown_by b v (submission b v))

-- ---- ThL2: "Every ticket that checking accepts must meet exactly these three numbers on its way"

-- accepted under a claim, "1 for no solution, 2 for strings"
abbrev pub AcceptedAs : ℕ → Outcome → Type 0
AcceptedAs claim (Refused c r) = ⊥
AcceptedAs claim NoSolution = claim ≡ 1
AcceptedAs claim (Strings a) = claim ≡ 2

-- "the number of steps, the most facts on any branch and the most pending splits", over all first steps; Open says of first steps that they lead to an open branch
-- with so many facts and so many splits pending
pub record OnItsWay {A : Type 0} (Open : List A → ℕ → ℕ → Type 0) (all : List A) (r : Report) : Type 0 where
  pub steps_are : r.steps ≡ length all
  pub none_above : (first others : List A) → all ≡ first ++ others → (facts pending : ℕ) → Open first facts pending → (facts ≤ r.facts) × (pending ≤ r.pending)
  pub facts_reached : (first : List A) × (others : List A) × (pending : ℕ) × (all ≡ first ++ others) × Open first r.facts pending
  pub pending_reached : (first : List A) × (others : List A) × (facts : ℕ) × (all ≡ first ++ others) × Open first facts r.pending

-- under claim 1 by the tree of proper steps, under claim 2 by the path of the children taken, where "no split is ever pending"
abbrev pub OpenOnTree : Question → List Step → ℕ → ℕ → Type 0
OpenOnTree u sts facts pending = (b : Branch) × Leads u u.constraints sts b pending × (length b ≡ facts)

abbrev pub OpenOnPath : Question → List (Step × ℕ) → ℕ → ℕ → Type 0
OpenOnPath u ts facts pending = (b : Branch) × Path u u.constraints ts b × (length b ≡ facts) × (pending ≡ 0)

-- the same, "treating every step as if it fitted"
abbrev pub AsIfOnTree : Question → List Step → ℕ → ℕ → Type 0
AsIfOnTree u sts facts pending = LeadsBy (AsIfFitted u.n) ◌+◌ (length u.constraints) sts facts pending

abbrev pub AsIfOnPath : Question → List (Step × ℕ) → ℕ → ℕ → Type 0
AsIfOnPath u ts facts pending = PathAsIfFitted u.n (length u.constraints) ts facts × (pending ≡ 0)

-- the ticket's need is reported, and P holds of its question and of the report
abbrev pub Reported : List ℕ → (Question → Report → Type 0) → Type 0
Reported t P = (u : Question) × (r : Report) × (question_of t ≡ some u) × (needed t ≡ Needs r) × P u r

abbrev pub ThL2 : Type 0
ThL2 = (work answer : ℕ) (t : List ℕ)
    → (AcceptedAs 1 (verdict work answer t) → Reported t (λ u. OnItsWay (OpenOnTree u) (steps t)))
    × (AcceptedAs 2 (verdict work answer t) → Reported t (λ u. OnItsWay (OpenOnPath u) (steps_with_child t)))

-- "treating every step as if it fitted", the tree of these steps is closed at its end
abbrev pub ClosesAsIf : Question → List Step → Type 0
ClosesAsIf u sts = ClosedBy (AsIfFitted u.n) ◌+◌ (length u.constraints) sts

-- and of every ticket, accepted or not, for which there is a report, its numbers are these; "a tree not closed at its end .. gives 11"
pub record OnTreeAsIf (t : List ℕ) (u : Question) (r : Report) : Type 0 where
  pub claim : claim_in t ≡ 1
  pub closed : ClosesAsIf u (steps t)
  pub numbers : OnItsWay (AsIfOnTree u) (steps t) r

pub record OnPathAsIf (t : List ℕ) (u : Question) (r : Report) : Type 0 where
  pub claim : claim_in t ≡ 2
  pub numbers : OnItsWay (AsIfOnPath u) (steps_with_child t) r

abbrev pub ThL2Met : Type 0
ThL2Met = (t : List ℕ) (r : Report) → needed t ≡ Needs r → (u : Question) × (question_of t ≡ some u) × (OnTreeAsIf t u r ⊎ OnPathAsIf t u r)

-- not "a tree not closed at its end, or claim 2 without a model": a ticket for strings has its model before the end
abbrev pub Complete : Content → Type 0
Complete (no_solution_ticket u sts) = ClosesAsIf u sts
Complete (strings_ticket u ts m) = Unit {0}

-- there is a report exactly for the tickets that document 01 allows and that are complete, facts and splits past the limits included
abbrev pub ThL2Reported : Type 0
ThL2Reported = (t : List ℕ) → Bytes t → Iff ((r : Report) × (needed t ≡ Needs r)) ((c : Content) × WrittenAs t c × Complete c)

-- record r is the end record of a ticket with "a tree not closed at its end, or claim 2 without a model", and else in range
pub data UnclosedAt (t : List ℕ) (r : ℕ) : Type 0 where
  unclosed : (u : Question) (sts : List Step) → WrittenAs t (no_solution_ticket u sts) → (Complete (no_solution_ticket u sts) → ⊥)
      → r ≡ record_behind u sts → UnclosedAt t r
  unmodelled : (u : Question) (ts : List (Step × ℕ)) → Begins t u 2 ts end_record r → All (TakenInRange u) ts → UnclosedAt t r

-- and these are the tickets to which it "gives 11"
abbrev pub ThL2Unclosed : Type 0
ThL2Unclosed = (t : List ℕ) (r : ℕ) → Bytes t → Iff (needed t ≡ NeedRefused 11 r) (UnclosedAt t r)

-- a ticket whose need passes checking's limits is refused
abbrev pub ThL2Limits : Type 0
ThL2Limits = (work answer claim : ℕ) (t : List ℕ) (r : Report) → AcceptedAs claim (verdict work answer t) → needed t ≡ Needs r
    → (r.facts ≤ fact_limit) × (r.pending ≤ pending_limit)

-- and a refusal is one of "2 to 7", or 11
abbrev pub ThL2Numbers : Type 0
ThL2Numbers = (t : List ℕ) (c r : ℕ) → needed t ≡ NeedRefused c r → ((2 ≤ c) × (c ≤ 7)) ⊎ (c ≡ 11)

-- ---- ThL3: extended constraints are judged, and are judging's alone

-- "counted as constraints": where judging's reading ended after a head, every record between the literals and that place is a constraint, by its number, and
-- there are at most 128
pub record Counts (b : List ℕ) (u : Question) (es : List Extended) (r : ℕ) : Type 0 where
  pub all_counted : r ≡ 1 + length u.literals + length (constraints_of u es)
  pub each_read : (k : ℕ) (c : Constraint) → get_elem? (constraints_of u es) k ≡ some c
      → (at : ℕ) × (get_elem? (records b 0) (1 + length u.literals + k) ≡ some at) × (next b at ≤ length b) × (c ≡ constraint_at b at)
  pub few : length (constraints_of u es) ≤ fact_limit
  pub named : All (Names u) es

abbrev pub ThL3Counted : Type 0
ThL3Counted = (b : List ℕ) (s : Progress) (at r : ℕ) → judged_question b ≡ Ended s at r → head_read s ≡ true → Counts b s.question s.extended r

-- record r is a whole one of kind 11
abbrev pub WholeExtended : List ℕ → ℕ → Type 0
WholeExtended b r = (at : ℕ) × (get_elem? (records b 0) r ≡ some at) × (kind b at ≡ extended_kind) × (next b at ≤ length b)

-- a question without them is read alike by judging and by checking, its refusals included; "Checking and the operation of L2 still refuse kind 11 with 4"
pub record ReadsAlike (b : List ℕ) : Type 0 where
  pub taken : (s : Progress) (at r : ℕ) → Iff (question b ≡ Ended s at r) ((judged_question b ≡ Ended s at r) × (s.extended ≡ []))
  pub refused : (c r : ℕ) → question b ≡ Stopped c r → (judged_question b ≡ Stopped c r) ⊎ ((c ≡ 4) × WholeExtended b r)
  pub four : (c r : ℕ) → (question b ≡ Stopped c r) ⊎ (question_form b ≡ Stopped c r) → length b ≤ ticket_bytes → WholeExtended b r → c ≡ 4

abbrev pub ThL3 : Type 0
ThL3 = (b : List ℕ) → ReadsAlike b

-- a ticket whose question judging takes, with extended constraints, is refused at the first of them, after the head, the literals and the other constraints
abbrev pub ThL3Refused : Type 0
ThL3Refused = (work answer : ℕ) (t : List ℕ) (u : Question) (e : Extended) (es : List Extended) → LargeEnough work answer
    → Asks t u (e ∷ es)
    → let r : ℕ = 1 + length u.literals + length u.constraints in
    (verdict work answer t ≡ Refused 4 r) × (needed t ≡ NeedRefused 4 r)

-- and no record of kind 11 stands anywhere in a ticket that is accepted, or whose need is reported
abbrev pub ThL3Absent : Type 0
ThL3Absent = (t : List ℕ) (r : ℕ) → WholeExtended t r
    → ((work answer claim : ℕ) → AcceptedAs claim (verdict work answer t) → ⊥) × ((n : Report) → needed t ≡ Needs n → ⊥)

-- case, character by character: "97 to 122 become 65 to 90" and all others stay, and the other way for lower case
pub record Turns (f : List ℕ → List ℕ) (first to : ℕ) : Type 0 where
  pub letter : (d : ℕ) → d < 26 → f ((first + d) ∷ []) ≡ (to + d) ∷ []
  pub other : (c : ℕ) → (c < first) ⊎ (first + 25 < c) → f (c ∷ []) ≡ c ∷ []
  pub each : (s t : List ℕ) → f (s ++ t) ≡ f s ++ f t
  pub empty : f [] ≡ []

abbrev pub ThL3Case : Type 0
ThL3Case = Turns upper 97 65 × Turns lower 65 97

-- "in decimal": a number below 10 is its digit, and every other one has a last digit after the rest; "empty for negatives". A string is read as the number
-- that it is the decimal of, "−1 if .. not numeric".
pub record Decimals : Type 0 where
  pub one_digit : (d : ℕ) → d < 10 → from_int (pos d) ≡ (48 + d) ∷ []
  pub last_digit : (v d : ℕ) → 1 ≤ v → d < 10 → from_int (pos (10 * v + d)) ≡ from_int (pos v) ++ ((48 + d) ∷ [])
  pub negative : (k : ℕ) → from_int (negsuc k) ≡ []
  pub read : (s : List ℕ) (k : ℕ) → Iff (to_int s ≡ pos k) (s ≡ from_int (pos k))
  pub not_numeric : (s : List ℕ) → ((k : ℕ) → s ≢ from_int (pos k)) → to_int s ≡ negsuc 0

abbrev pub ThL3Decimals : Type 0
ThL3Decimals = Decimals

-- ---- ThL4: "A ticket accepted before is accepted now, within the same limits", under either claim and with the same answer; Th4 says of a "no" what it said

abbrev pub ThL4 : Type 0
ThL4 = (work answer : ℕ) (t : List ℕ)
    → (verdict_before work answer t ≡ NoSolution → verdict work answer t ≡ NoSolution)
    × ((a : Assignment) → verdict_before work answer t ≡ Strings a → verdict work answer t ≡ Strings a)

-- "before": the same rules, except that a Sum adds its form as a ≥ fact and Join takes two ≥ facts
pub record RulesBefore (u : Question) (b : Branch) : Type 0 where
  pub sum : (d : ℕ) (ts : List (ℕ × ℤ)) (cs : List (List Fact)) → Iff (children_before u b (Sum d ts) ≡ some cs)
      ((r : Relation) × (e : List ℤ) × (children u b (Sum d ts) ≡ some (one (arithmetic r e))) × (cs ≡ one (arithmetic ge e)))
  pub join : (j k : ℕ) (cs : List (List Fact)) → Iff (children_before u b (Join j k) ≡ some cs)
      ((children u b (Join j k) ≡ some cs) × HasRelation b ge j × HasRelation b ge k)
  pub others : (st : Step) → ((d : ℕ) (ts : List (ℕ × ℤ)) → st ≢ Sum d ts) → ((j k : ℕ) → st ≢ Join j k) → children_before u b st ≡ children u b st

abbrev pub ThL4Before : Type 0
ThL4Before = (u : Question) (b : Branch) → RulesBefore u b

-- ---- Th4, demand 3: whatever the bytes, where checking says "no solution", no assignment meets all constraints

-- no assignment of the question meets all of these constraints
abbrev pub NoneMeets : Question → Branch → Type 0
NoneMeets u cs = (a : Assignment) → IsAssignment u a → Met u a cs → ⊥

abbrev pub NoAssignment : Question → Type 0
NoAssignment u = NoneMeets u u.constraints

abbrev pub Th4 : Type 0
Th4 = (work answer : ℕ) (t : List ℕ) → verdict work answer t ≡ NoSolution → (u : Question) × (question_of t ≡ some u) × NoAssignment u

-- ---- ThL5: "The constraints in that set, without the others, must have no solution either"; and every number in it is that of a constraint

-- the set that comes with the outcome
abbrev pub returned_set : ℕ → ℕ → List ℕ → Set
returned_set work answer t = core_of (verdict work answer t) t

abbrev pub ThL5 : Type 0
ThL5 = (work answer : ℕ) (t : List ℕ) → verdict work answer t ≡ NoSolution
    → (u : Question) × (question_of t ≡ some u) × (length (returned_set work answer t) ≤ length u.constraints)
    × NoneMeets u (chosen_from 0 (returned_set work answer t) u.constraints)

-- "with every other outcome the empty set"
abbrev pub ThL5Empty : Type 0
ThL5Empty = (work answer : ℕ) (t : List ℕ) → verdict work answer t ≢ NoSolution → returned_set work answer t ≡ []

-- bit k of a number
abbrev pub bit : ℕ → ℕ → ℕ
bit k n = (n / 2 ^ k) % 2

-- the two numbers that are returned for a set hold its flags, for each constraint below 128
abbrev pub ThL5Words : Type 0
ThL5Words = (s : Set) (k : ℕ) → k < 64 → (bit k (low s) ≡ flag (get_or s k false)) × (bit k (high s) ≡ flag (get_or s (64 + k) false))

-- ---- ThL6: "Two questions found the same must have the same solutions"

-- an assignment of the question that meets all its constraints
abbrev pub Solves : Question → List Extended → Assignment → Type 0
Solves u es a = IsAssignment u a × MetAll u a (constraints_of u es)

abbrev pub ThL6 : Type 0
ThL6 = (b c : List ℕ) → sameness b c ≡ Same
    → (u : Question) × (es : List Extended) × (v : Question) × (ds : List Extended) × Asks b u es × Asks c v ds
    × ((a : Assignment) → Iff (Solves u es a) (Solves v ds a))

-- two questions that are asked are found the same exactly when "n, p and q agree and the sets of constraints agree, order and repeats aside"
abbrev pub ThL6Sets : Type 0
ThL6Sets = (b c : List ℕ) (u v : Question) (es ds : List Extended) → Asks b u es → Asks c v ds → Iff (sameness b c ≡ Same) (SameSets u es v ds)

-- and different only where both are asked, and these do not agree
abbrev pub ThL6Different : Type 0
ThL6Different = (b c : List ℕ) → sameness b c ≡ Different
    → (u : Question) × (es : List Extended) × (v : Question) × (ds : List Extended) × Asks b u es × Asks c v ds × (SameSets u es v ds → ⊥)

-- "The first question's refusal, by judging's rules, comes before the second's": a refusal is what judging says of the question concerned, whatever the
-- answer, and where the second is refused the first is asked
pub record RefusedAsJudged (b c : List ℕ) : Type 0 where
  pub by_judging : (w : Which) (n r : ℕ) → sameness b c ≡ SameRefused w n r → (v : List ℕ) → submission (by_which w b c) v ≡ Rejected n r
  pub first_asked : (n r : ℕ) → sameness b c ≡ SameRefused second n r → (u : Question) × (es : List Extended) × Asks b u es

abbrev pub ThL6Refused : Type 0
ThL6Refused = (b c : List ℕ) → RefusedAsJudged b c

-- "divided by the greatest common divisor of its coefficients and constant, if that is not 0": by that divisor, and nothing is rounded
pub record DividedOut (e : List ℤ) : Type 0 where
  pub divisor : GreatestCommonDivisor (map nat_abs e) (divisor_of e)
  pub exact : scale (pos (divisor_of e)) (reduced e) ≡ e
  pub undivided : divisor_of e ≡ 0 → reduced e ≡ e

abbrev pub ThL6Divisor : Type 0
ThL6Divisor = (e : List ℤ) → DividedOut e

-- "the sign is then turned so that the first coefficient, or the constant where there is none, is positive"
abbrev pub ThL6Sign : Type 0
ThL6Sign = (e : List ℤ) → PositiveLead e

-- ---- Th5, demand 3: whatever the bytes, where checking gives strings, they meet every constraint and differ wherever the leaf's classes differ

-- a are the strings and integers whose bytes `answer_after` puts into the answer buffer
pub record Answered (t : List ℕ) (u : Question) (a : Assignment) : Type 0 where
  pub asked : question_of t ≡ some u
  pub for_question : IsAssignment u a
  -- judging reads these very values from the bytes
  pub read_back : submission t (encode a) ≡ Submitted u [] a
  -- "at most 4,268 bytes"
  pub room : length (encode a) ≤ answer_bytes
  pub meets_all : Met u a u.constraints
  -- "The leaf is the branch at the model: the question's constraints and every fact that the steps added, of a split those of the child taken"
  pub leaf : Branch
  pub path : Path u u.constraints (steps_with_child t) leaf
  pub only_leaf : (l : Branch) → Path u u.constraints (steps_with_child t) l → l ≡ leaf
  -- "Strings differ wherever classes differ: any two variables not in one class get different strings"
  pub differ : (x y : ℕ) → x < u.p → y < u.p → (OneClass leaf x y → ⊥) → str a x ≢ str a y
  -- the model before the end; by it the strings are given, each "of its length", and "The integers are the model's"
  pub model : List ℤ
  pub proper : ProperStrings t u model
  pub given : GivenStrings u leaf model a
  pub integers : a.ints ≡ take u.q model

abbrev pub Th5 : Type 0
Th5 = (work answer : ℕ) (t : List ℕ) (a : Assignment) → verdict work answer t ≡ Strings a → (u : Question) × Answered t u a

-- ---- Th6, demand 3: a ticket of proper form for strings within the limits, every step proper, is accepted exactly when the leaf is settled,
-- the model meets its facts and no length passes 64

abbrev pub Th6 : Type 0
Th6 = (work answer : ℕ) (t : List ℕ) (u : Question) (m : List ℤ) (leaf : Branch) → LargeEnough work answer → ProperStrings t u m
    → PathWithinLimits u (steps_with_child t) → Path u u.constraints (steps_with_child t) leaf
    → Iff ((a : Assignment) × (verdict work answer t ≡ Strings a)) (Settled u leaf m × All (MeetsArithmetic m) leaf × ShortLengths u m)

-- what Th6 asks of a ticket holds of each that is accepted; with Th5's path and leaf it leaves none out
abbrev pub Th6Covers : Type 0
Th6Covers = (work answer : ℕ) (t : List ℕ) (a : Assignment) → verdict work answer t ≡ Strings a
    → (u : Question) × (m : List ℤ) × ProperStrings t u m × PathWithinLimits u (steps_with_child t)

-- ---- the demands that are theorems about the definitions, each under its name. One value of this record stands in format/proofs/Demands, and the gate holds
-- the fields and that value's type against the names on file.

pub record Demands : Type 0 where
  pub th_1_small : Th1Small
  pub th_1_long : Th1Long
  pub th_1_length : Th1Length
  pub th_form : ThForm
  pub th_form_one : ThFormOne
  pub th_put : ThPut
  pub th_asked : ThAsked
  pub th_refusals : ThRefusals
  pub th_2 : Th2
  pub th_2_covers : Th2Covers
  pub th_3 : Th3
  pub th_3_all : Th3All
  pub th_3_answers : Th3Answers
  pub th_3_unformed : Th3Unformed
  pub th_3_outside : Th3Outside
  pub th_l1 : ThL1
  pub th_l2 : ThL2
  pub th_l2_met : ThL2Met
  pub th_l2_reported : ThL2Reported
  pub th_l2_unclosed : ThL2Unclosed
  pub th_l2_limits : ThL2Limits
  pub th_l2_numbers : ThL2Numbers
  pub th_l3 : ThL3
  pub th_l3_counted : ThL3Counted
  pub th_l3_refused : ThL3Refused
  pub th_l3_absent : ThL3Absent
  pub th_l3_case : ThL3Case
  pub th_l3_decimals : ThL3Decimals
  pub th_l4 : ThL4
  pub th_l4_before : ThL4Before
  pub th_l5 : ThL5
  pub th_l5_empty : ThL5Empty
  pub th_l5_words : ThL5Words
  pub th_l6 : ThL6
  pub th_l6_sets : ThL6Sets
  pub th_l6_different : ThL6Different
  pub th_l6_refused : ThL6Refused
  pub th_l6_divisor : ThL6Divisor
  pub th_l6_sign : ThL6Sign
  pub th_4 : Th4
  pub th_5 : Th5
  pub th_6 : Th6
  pub th_6_covers : Th6Covers
