-- Demand 3 of the code, as far as it speaks of what is handed out: what `check_ticket` returns and the bytes that it leaves in the answer buffer are true of the
-- ticket. That it accepts the leaves that it should is Th6, by the equation of its contract (Th1).
use Rattle.std.specs.Prelude.{ℕ, ◌-◌, ◌≡◌, cond, List, [], ◌++◌, length, drop, ltb, ℤ, Result, Ok, Err}
use Rattle.std.proofs.Math.Option.{some}
use Rattle.std.proofs.Math.ListN.{get_elem?}
use Rattle.calculus.specs.Facts.{Question, Fact}
use Rattle.calculus.specs.Meaning.{Assignment, IsAssignment, Meets}
use Rattle.format.specs.Question.{question_of}
use Rattle.format.specs.Answer.{encode}
use Rattle.format.specs.Demands.{Bytes, PutsQuestion, bit, NoAssignment, Answered}
use Rattle.faults.specs.declared.Refusal.{Refusal}
use Rattle.deciding.specs.declared.Verdict.{Verdict}
use Rattle.deciding.specs.declared.Verdict.TheVariants.{NoSolution, Strings}

-- constraint k is in the set that is returned in two numbers: bit k of the first, bit k − 64 of the second
abbrev pub TookPart : ℕ → ℕ → ℕ → Type 0
TookPart low high k = cond (ltb k 64) (bit k low) (bit (k - 64) high) ≡ 1

-- "The constraints in that set, without the others, must have no solution either" (02, L5)
abbrev pub NoneMeetsThose : Question → ℕ → ℕ → Type 0
NoneMeetsThose u low high = (a : Assignment) → IsAssignment u a
    → ((k : ℕ) (f : Fact) → get_elem? u.constraints k ≡ some f → TookPart low high k → Meets u a f) → ⊥

-- "no solution": no assignment meets the question that the ticket puts, none the set returned, and "writes nothing to the answer buffer"
pub record NoSolutionIsTrue (ticket answer answer' : List ℕ) (low high : ℕ) : Type 0 where
  pub question : Question
  pub asked : question_of ticket ≡ some question
  -- in words, of bytes, as every slice that is lent has them: the ticket begins with it
  pub begins : Bytes ticket → PutsQuestion ticket question []
  pub none_meets : NoAssignment question
  pub none_meets_those : NoneMeetsThose question low high
  pub untouched : answer' ≡ answer

-- strings: "The answer stands from the buffer's first byte" and "strings write nothing past the answer's length"; the values that it holds meet every constraint
-- of the question that the ticket puts, and differ wherever the leaf's classes do
pub record StringsAreTrue (ticket answer answer' : List ℕ) : Type 0 where
  pub question : Question
  pub given : Assignment
  pub stands : answer' ≡ encode given ++ drop (length (encode given)) answer
  pub begins : Bytes ticket → PutsQuestion ticket question []
  pub answered : Answered ticket question given

-- by what is returned; "A refusal .. writes nothing to the answer buffer"
abbrev pub IsTrue : List ℕ → List ℕ → List ℕ → Result Verdict Refusal → Type 0
IsTrue ticket answer answer' (Err f) = answer' ≡ answer
IsTrue ticket answer answer' (Ok (NoSolution words)) = NoSolutionIsTrue ticket answer answer' words.low words.high
IsTrue ticket answer answer' (Ok Strings) = StringsAreTrue ticket answer answer'

-- the ticket, the work area and the answer buffer before and after, and what is returned
pub record Theory (ticket : List ℕ) (work work' : List ℤ) (answer answer' : List ℕ) (r : Result Verdict Refusal) : Type 0 where
  pub is_true : IsTrue ticket answer answer' r
  pub answer_length : length answer' ≡ length answer
  pub work_length : length work' ≡ length work
