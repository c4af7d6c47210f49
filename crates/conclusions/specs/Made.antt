-- What the code gives of a step: whether the branch closes, or the first number that applies and the branch with the one fact that the step adds.
use Rattle.std.specs.Prelude.{ℕ, ◌+◌, ◌≡◌, Bool, List, [], ◌++◌, ℤ, Result, OnOk}
use Rattle.std.proofs.Math.Option.{Option}
use Rattle.calculus.specs.Facts.{Question, Fact}
use Rattle.calculus.specs.Steps.{Step}
use Rattle.calculus.specs.Rules.{guard, children, literal_children}
use Rattle.format.specs.StepForms.{function_of}
use Rattle.format.specs.Checking.{taken_tried, child_in, or_none}
use Rattle.faults.specs.declared.Fault.{Fault}
use Rattle.faults.specs.Numbers.{fault_in}
use Rattle.question.specs.declared.Progress.{Progress}
use Rattle.question.specs.Posed.{asked}
use Rattle.rows.specs.Rows.{branch_of}
use Rattle.rows.specs.Work.{Fine}

-- no children where the branch closes
unfoldable pub closing_of : Bool → Option (List (List Fact))
closing_of t = guard t []

-- a step has the children o on the branch of the first count rows of the work area w: r refuses it by the first of 8 to 10 that applies to its first
-- child; where none does, the child's one fact stands after those of the branch in the work area v, within the limits
pub record Concludes (o : Option (List (List Fact))) (w : List ℤ) (count : ℕ) (v : List ℤ) (r : Result Unit Fault) : Type 0 where
  pub fault : fault_in r ≡ taken_tried (branch_of w count) (child_in o 1)
  pub added : OnOk r (branch_of v (count + 1) ≡ branch_of w count ++ or_none (child_in o 1))
  pub fine : OnOk r (Fine v (count + 1))

-- with the children of a step by the rules
abbrev pub ConcludesBy : Question → Step → List ℤ → ℕ → List ℤ → Result Unit Fault → Type 0
ConcludesBy u st w count v r = Concludes (children u (branch_of w count) st) w count v r

-- the children of L-Intro and C-Collapse there, by their function
abbrev pub of_literal : List ℕ → Progress → List ℤ → ℕ → ℕ → ℕ → Option (List (List Fact))
of_literal b s w count f x = literal_children (asked b s) (branch_of w count) (function_of f) x
