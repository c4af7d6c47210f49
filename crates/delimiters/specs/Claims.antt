-- The two claims, and where a branch is open under each.
use Rattle.std.specs.Prelude.{◌≡◌, ◌&&◌, ℕ, Bool, false, cond, List, eqb, leb, Result, IfOk}
use Rattle.calculus.specs.Walk.{Waiting, working}
use Rattle.format.specs.Records.{need}
use Rattle.format.specs.Reading.{State, proving, taking}
use Rattle.faults.specs.Numbers.{fault_in}
use Rattle.faults.specs.declared.Fault.{Fault}
use Rattle.delimiters.specs.declared.Claim.{Claim}
use Rattle.delimiters.specs.declared.Claim.TheVariants.{NoSolution, Strings}

-- "1 for no solution, 2 for strings"
abbrev pub claim_of : ℕ → Claim
claim_of k = cond (eqb k 1) NoSolution Strings

-- the claim of number k is read: any other number than 1 and 2 is out of range
abbrev pub ClaimRead : ℕ → Result Claim Fault → Type 0
ClaimRead k r = (fault_in r ≡ need 6 (leb 1 k && leb k 2) 0) × IfOk r (λ c. c ≡ claim_of k)

-- the branch br is worked on: with the splits ss pending under claim 1; by itself under claim 2, where no split is pending
abbrev pub open_under : {B C : Type 0} → Claim → B → List (Waiting B C) → State B C
open_under NoSolution br ss = proving (working br ss)
open_under Strings br ss = taking br

-- a record of kind k ends the steps: the model, under claim 2
abbrev pub ends_at : Claim → ℕ → Bool
ends_at NoSolution k = false
ends_at Strings k = eqb k 7
