-- A step that is ready to be taken under a claim, and what the code says of it.
use Rattle.std.specs.Prelude.{ℕ, ◌+◌, ◌≤◌, ◌<◌, ◌≡◌, true, cond, List, [], ◌++◌, leb, ℤ, Result, IfOk}
use Rattle.std.proofs.Math.Option.{some}
use Rattle.calculus.specs.Limits.{pending_limit}
use Rattle.calculus.specs.Facts.{Question, Branch}
use Rattle.format.specs.Records.{size}
use Rattle.format.specs.StepForms.{rule, child_field}
use Rattle.delimiters.specs.declared.Claim.{Claim}
use Rattle.delimiters.specs.declared.Claim.TheVariants.{NoSolution, Strings}
use Rattle.question.specs.declared.Progress.{Progress}
use Rattle.question.specs.Posed.{asked}
use Rattle.rows.specs.Rows.{branch_of}
use Rattle.rows.specs.Work.{Fine}
use Rattle.steps.specs.declared.Rule.{Rule}
use Rattle.steps.specs.Rules.{rule_named}
use Rattle.steps.specs.Faults.{field_fits}
use Rattle.steps.specs.Ready.{Ready}
use Rattle.steps.specs.Conclusions.{conclusions_of}
use Rattle.steps.specs.declared.Conclusions.TheVariants.{Several}
use Rattle.faults.specs.Numbers.{fault_in}
use Rattle.faults.specs.declared.Fault.{Fault}
use Rattle.derivation.specs.State.{offered_in, child_on, tried_at}
use Rattle.derivation.specs.Ok.{Splits}
use Rattle.derivation.specs.declared.Action as action
use Rattle.derivation.specs.declared.Action.{Action}

-- the step in the record at a position fits with n children, and the facts of the first stand after those of the branch, as the first k rows of the work area
-- w
pub record Begins (b : List ℕ) (u : Question) (br : Branch) (at n : ℕ) (w : List ℤ) (k : ℕ) : Type 0 where
  pub splits : Splits b u br at n
  pub rows : branch_of w k ≡ br ++ child_on b u br at 1
  pub fine : Fine w k

-- it is a split of n children, two or more, and there is room for one more to be pending
pub record Branches (b : List ℕ) (at n pending : ℕ) : Type 0 where
  pub several : conclusions_of (rule b (at + 6)) ≡ Several
  pub two : 2 ≤ n
  pub few : n < 256
  pub room : pending < pending_limit

-- the facts of the child taken stand after those of the branch, as the first k rows of the work area w
pub record Follows (b : List ℕ) (u : Question) (br : Branch) (at : ℕ) (w : List ℤ) (k : ℕ) : Type 0 where
  pub rows : branch_of w k ≡ br ++ child_on b u br at (child_field b (at + 6))
  pub fine : Fine w k

-- the step in the record at a position, under a claim, on the branch of the first count rows of the work area v with so many splits pending; w is the work
-- area after it. Under claim 2 no branch closes, and no split is pending
unfoldable pub Acts : Claim → List ℕ → Question → ℕ → ℕ → List ℤ → ℕ → List ℤ → Action → Type 0
Acts NoSolution b u at pending v count w action.TheVariants.Closes = (offered_in b u (branch_of v count) at ≡ some []) × (branch_of w count ≡ branch_of v count)
Acts NoSolution b u at pending v count w (action.TheVariants.Extends k) = Begins b u (branch_of v count) at 1 w k
Acts NoSolution b u at pending v count w (action.TheVariants.Splits k n) = Begins b u (branch_of v count) at n w k × Branches b at n pending
Acts Strings b u at pending v count w action.TheVariants.Closes = ⊥
Acts Strings b u at pending v count w (action.TheVariants.Extends k) = Follows b u (branch_of v count) at w k
Acts Strings b u at pending v count w (action.TheVariants.Splits k n) = ⊥

-- under the question that was read
abbrev pub ActsOn : Claim → List ℕ → Progress → ℕ → ℕ → List ℤ → ℕ → List ℤ → Action → Type 0
ActsOn claim b s at pending v count w a = Acts claim b (asked b s) at pending v count w a

-- a step with one conclusion, in a record of m bytes: the same under both claims, where its child field fits
abbrev pub ConcludesUnder : List ℕ → Progress → ℕ → ℕ → List ℤ → ℕ → List ℤ → Result Action Fault → Type 0
ConcludesUnder b s at m v count w r =
    (claim : Claim) (pending : ℕ) → field_fits claim b s.n (at + 6) m ≡ true
    → (fault_in r ≡ tried_at claim b s at v count pending) × IfOk r (λ a. ActsOn claim b s at pending v count w a)

-- ---- a split whose child begins

-- the child that begins: "children are worked left to right", so the first under claim 1; under claim 2 "the child taken"
abbrev pub begun_child : Claim → List ℕ → ℕ → ℕ
begun_child NoSolution b body = 1
begun_child Strings b body = child_field b body

-- what the split comes to then, with so many children in all and so many facts on the branch
abbrev pub begun_as : Claim → ℕ → ℕ → Action
begun_as NoSolution last k = cond (leb last 1) (action.TheVariants.Extends k) (action.TheVariants.Splits k last)
begun_as Strings last k = action.TheVariants.Extends k

-- ---- a step that is ready to be taken

-- the step in a record of m bytes at a position, by its rule's name, under a claim
pub record ReadyUnder (claim : Claim) (r : Rule) (b : List ℕ) (s : Progress) (at m : ℕ) (w : List ℤ) (count : ℕ) : Type 0 where
  pub ready : Ready b s (at + 6) m w count
  pub named : rule_named r ≡ rule b (at + 6)
  pub sized : m ≡ size b at
  pub field : field_fits claim b s.n (at + 6) m ≡ true
