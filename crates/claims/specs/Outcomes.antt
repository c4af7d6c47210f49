-- What the code says of the records after the claim, in the definitions of the format.
use Rattle.std.specs.Prelude.{ℕ, ◌≤◌, ◌≡◌, List, [], map, length, ℤ, Result, Ok, Err}
use Rattle.calculus.specs.Facts.{Fact, Branch}
use Rattle.calculus.specs.Walk.{closed}
use Rattle.calculus.specs.Steps.{Step}
use Rattle.calculus.specs.Cores.{core_in}
use Rattle.format.specs.Records.{kind, next, records}
use Rattle.format.specs.ProperForm.{steps_at}
use Rattle.faults.specs.Numbers.{number}
use Rattle.faults.specs.declared.Refusal.{Refusal}
use Rattle.cores.specs.Words.{words_of}
use Rattle.format.specs.Reading.{State, proving, taking, steps_on}
use Rattle.format.specs.Checking.{checker, Outcome, Refused, outcome_of}
use Rattle.delimiters.specs.declared.Claim.{Claim}
use Rattle.delimiters.specs.declared.Claim.TheVariants.{NoSolution, Strings}
use Rattle.delimiters.specs.Claims.{open_under}
use Rattle.question.specs.declared.Progress.{Progress}
use Rattle.question.specs.Posed.{asked, Posed}
use Rattle.rows.specs.Rows.{branch_of}
use Rattle.rows.specs.Work.{Fine}
use Rattle.claims.specs.declared.Walked as walked
use Rattle.claims.specs.declared.Walked.{Walked}

-- of how many facts labels are kept to be set back to: of the question's constraints under claim 1
abbrev pub first_upto : Claim → ℕ → ℕ
first_upto NoSolution constraints = constraints
first_upto Strings constraints = 0

-- a question that was read, with its constraints in their rows
abbrev pub Loaded : List ℕ → Progress → List ℤ → Type 0
Loaded b s work = Posed b s × Fine work s.constraints × (branch_of work s.constraints ≡ (asked b s).constraints)

-- what reading comes to in a state after the claim, from record r at a position on
abbrev pub outcome_from : List ℕ → Progress → State Branch (List Fact) → ℕ → ℕ → Outcome
outcome_from b s st r at = outcome_of (steps_on (checker (asked b s)) b (asked b s) st r at)

-- under a claim, from record r at a position on, with nothing but the question's constraints on the branch
abbrev pub walk_from : Claim → List ℕ → Progress → ℕ → ℕ → Outcome
walk_from claim b s r at = outcome_from b s (open_under claim (asked b s).constraints []) r at

-- refused; or every branch is closed, and reading goes on at a position and record; or it goes on at the model's record, on the branch of the first count rows
unfoldable pub walked_of : List ℕ → Progress → List ℤ → Result Walked Refusal → Outcome
walked_of b s w (Err f) = Refused (number f.fault) f.record
walked_of b s w (Ok (walked.TheVariants.Closed at r core)) = outcome_from b s (proving closed) r at
walked_of b s w (Ok (walked.TheVariants.Model at r count)) = outcome_from b s (taking (branch_of w count)) r at

-- the model's record is all there, and the rows are in order
pub record AtModel (b : List ℕ) (w : List ℤ) (at r count : ℕ) : Type 0 where
  pub model : kind b at ≡ 7
  pub whole : next b at ≤ length b
  pub fine : Fine w count
  pub low : r ≤ at

unfoldable pub LeafAt : List ℕ → List ℤ → Walked → Type 0
LeafAt b w (walked.TheVariants.Closed at r core) = Unit {0}
LeafAt b w (walked.TheVariants.Model at r count) = AtModel b w at r count

-- the steps from a position on
abbrev pub steps_from : List ℕ → ℕ → List Step
steps_from b at = map (λ (t : Step × ℕ). t.0) (steps_at b (records b at))

-- where every branch is closed, the words are those of the core of the steps from a position on
unfoldable pub CoreAt : List ℕ → Progress → ℕ → Walked → Type 0
CoreAt b s at (walked.TheVariants.Closed to r core) = core ≡ words_of (core_in (asked b s) (steps_from b at))
CoreAt b s at (walked.TheVariants.Model to r count) = Unit {0}
