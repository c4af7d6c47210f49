-- What a ticket comes to on buffers that are large enough, as the code tells it.
use Rattle.std.specs.Prelude.{◌≡◌, List, ℕ, Result, Ok, Err}
use Rattle.calculus.specs.Cores.{Set}
use Rattle.format.specs.Question.{Ended, question}
use Rattle.format.specs.Reading.{read_claim, read_behind}
use Rattle.format.specs.Checking as format
use Rattle.format.specs.Checking.{checker, outcome_of}
use Rattle.format.specs.Cores.{low, high}
use Rattle.format.specs.Demands.{answer_after}
use Rattle.question.specs.declared.Progress.{Progress}
use Rattle.question.specs.Progress.{progress_of}
use Rattle.question.specs.Posed.{ReadTo}
use Rattle.faults.specs.Numbers.{number}
use Rattle.faults.specs.declared.Refusal.{Refusal}
use Rattle.deciding.specs.declared.Verdict.{Verdict}
use Rattle.deciding.specs.declared.Verdict.TheVariants as code

-- what is told of an outcome: a refusal's number and record; with no solution the set of constraints that took part, in two numbers; of strings the answer's bytes
-- stand in the answer buffer
pub data Told : Type 0 where
  Refused : ℕ → ℕ → Told
  NoSolution : ℕ → ℕ → Told
  Strings : Told

unfoldable pub told : format.Outcome → Set → Told
told (format.Refused c r) set = Refused c r
told format.NoSolution set = NoSolution (low set) (high set)
told (format.Strings a) set = Strings

-- "If the answer is an enum, a definition gives this paper's number and values for each of its cases"
abbrev pub told_by : Result Verdict Refusal → Told
told_by (Err f) = Refused (number f.fault) f.record
told_by (Ok (code.NoSolution words)) = NoSolution words.low words.high
told_by (Ok code.Strings) = Strings

-- at the claim, and at the first record
abbrev pub claimed_from : List ℕ → Progress → ℕ → ℕ → format.Outcome
claimed_from b s at r = outcome_of (read_claim checker b (progress_of b s) at r)

abbrev pub read_whole : List ℕ → format.Outcome
read_whole b = outcome_of (read_behind checker b (question b))

-- the question was read, with 10 looked for, up to record r at a position
abbrev pub ReadToClaim : List ℕ → Progress → ℕ → ℕ → Type 0
ReadToClaim b s at r = ReadTo b s at r × (question b ≡ Ended (progress_of b s) at r)

-- a part of checking comes to an outcome: it tells it, with the set where it is no solution, and of the answer buffer changes the answer's bytes only
pub record Decided (o : format.Outcome) (set : Set) (answer answer' : List ℕ) (r : Result Verdict Refusal) : Type 0 where
  pub tells : told_by r ≡ told o set
  pub answer_is : answer' ≡ answer_after o answer
