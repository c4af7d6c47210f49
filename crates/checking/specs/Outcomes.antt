-- What checking promises of its result and the lent buffers.
use Rattle.std.specs.Prelude.{◌≡◌, List, ℕ, ℤ, Result}
use Rattle.calculus.specs.Cores.{Set}
use Rattle.format.specs.Checking as format
use Rattle.format.specs.Demands.{Th1}
use Rattle.faults.specs.declared.Refusal.{Refusal}
use Rattle.deciding.specs.declared.Verdict.{Verdict}
use Rattle.deciding.specs.Outcomes.{told, told_by}

-- Th1: the outcome that is told is the definition's, with its set, and the buffers are left as demanded
pub record Promised (ticket : List ℕ) (work work' : List ℤ) (answer answer' : List ℕ) (r : Result Verdict Refusal) : Type 0 where
  pub outcome : format.Outcome
  pub set : Set
  pub checked : Th1 ticket work work' answer answer' outcome set
  pub tells : told_by r ≡ told outcome set
