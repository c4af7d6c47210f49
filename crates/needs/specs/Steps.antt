-- A step that is taken as if it fitted.
use Rattle.std.specs.Prelude.{ℕ, ◌+◌, ◌≡◌, true, List, length, Option, Some, None}
use Rattle.calculus.specs.Walk.{Waiting, closed}
use Rattle.format.specs.Records.{size}
use Rattle.format.specs.ProperForm.{by_shape}
use Rattle.format.specs.Reading.{State, proving, stepped, step_with_child}
use Rattle.format.specs.Needs.{pending_in}
use Rattle.question.specs.declared.Progress.{Progress}
use Rattle.question.specs.Posed.{asked}
use Rattle.delimiters.specs.declared.Claim.{Claim}
use Rattle.delimiters.specs.Claims.{open_under}
use Rattle.steps.specs.Forms.{Formed}
use Rattle.steps.specs.Faults.{field_fits}

-- the record at a position, with a body of m bytes, is a step of proper form under a claim
pub record Fit (claim : Claim) (b : List ℕ) (s : Progress) (at m : ℕ) : Type 0 where
  pub formed : Formed b (asked b s) (at + 6) m
  pub sized : m ≡ size b at
  pub field : field_fits claim b s.n (at + 6) m ≡ true

-- where a step leads under a claim, with the splits ss then pending
abbrev pub state_of : Claim → List (Waiting ℕ ℕ) → Option ℕ → State ℕ ℕ
state_of claim ss None = proving closed
state_of claim ss (Some facts) = open_under claim facts ss

-- the step at a position is taken on a branch of so many facts, where the splits ss are pending under claim 1, and ss' after it
pub record Enters (claim : Claim) (b : List ℕ) (s : Progress) (at facts : ℕ) (ss ss' : List (Waiting ℕ ℕ)) (r : Option ℕ) : Type 0 where
  pub state : state_of claim ss' r ≡ stepped (by_shape (asked b s)) (open_under claim facts ss) (step_with_child b at)
  -- under claim 2 no split is pending if none was
  pub depth : (f : ℕ) → pending_in (open_under claim facts ss) ≡ length ss → pending_in (open_under claim f ss') ≡ length ss'
