-- The children that a step's body offers on a branch, under one name: contracts that cite them stay small.
use Rattle.std.specs.Prelude.{ℕ, List, ◌++◌, ℤ}
use Rattle.std.proofs.Math.Option.{Option}
use Rattle.calculus.specs.Facts.{Question, Fact, Branch}
use Rattle.calculus.specs.Rules.{children}
use Rattle.format.specs.StepForms.{child_field, step_at}
use Rattle.format.specs.Checking.{or_none, all_tried, taken_tried, child_in}
use Rattle.delimiters.specs.declared.Claim.{Claim}
use Rattle.delimiters.specs.declared.Claim.TheVariants.{NoSolution, Strings}
use Rattle.question.specs.declared.Progress.{Progress}
use Rattle.question.specs.Posed.{asked}
use Rattle.rows.specs.Rows.{branch_of}

-- the children, none where the step does not fit
unfoldable pub offered : List ℕ → Question → Branch → ℕ → ℕ → Option (List (List Fact))
offered b u br body m = children u br (step_at b body m)

-- the facts of child k, from 1
abbrev pub offered_child : List ℕ → Question → Branch → ℕ → ℕ → ℕ → List Fact
offered_child b u br body m k = or_none (child_in (offered b u br body m) k)

-- ---- a step's body of m bytes on the branch of the first count rows of the work area, under the question that was read

abbrev pub offered_on : List ℕ → Progress → ℕ → ℕ → List ℤ → ℕ → Option (List (List Fact))
offered_on b s body m w count = offered b (asked b s) (branch_of w count) body m

-- child k
abbrev pub child_of : List ℕ → Progress → ℕ → ℕ → List ℤ → ℕ → ℕ → Option (List Fact)
child_of b s body m w count k = child_in (offered_on b s body m w count) k

-- the branch with the facts of child k
abbrev pub with_child : List ℕ → Progress → ℕ → ℕ → List ℤ → ℕ → ℕ → Branch
with_child b s body m w count k = branch_of w count ++ or_none (child_of b s body m w count k)

-- the first of 8 to 10 that applies, 0 for none: to child k, and to all children with so many splits pending
abbrev pub child_fault : List ℕ → Progress → ℕ → ℕ → List ℤ → ℕ → ℕ → ℕ
child_fault b s body m w count k = taken_tried (branch_of w count) (child_of b s body m w count k)

abbrev pub all_fault : List ℕ → Progress → ℕ → ℕ → List ℤ → ℕ → ℕ → ℕ
all_fault b s body m w count pending = all_tried (branch_of w count) pending (offered_on b s body m w count)

-- "Under claim 1 all children of a split are tried for 9 and 10 at the split's own record, under claim 2 only the one taken"
abbrev pub tried_under : Claim → List ℕ → Progress → ℕ → ℕ → List ℤ → ℕ → ℕ → ℕ
tried_under NoSolution b s body m w count pending = all_fault b s body m w count pending
tried_under Strings b s body m w count pending = child_fault b s body m w count (child_field b body)
