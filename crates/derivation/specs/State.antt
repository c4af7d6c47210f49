-- The walk's state as the code holds it: the facts of the branch are rows of the work area, and a pending split is known by the position of its step's record.
use Rattle.std.specs.Prelude.{ℕ, ◌+◌, ◌≤◌, ◌≡◌, List, [], ◌∷◌, ◌++◌, take, drop, ℤ}
use Rattle.std.proofs.Math.Option.{Option}
use Rattle.calculus.specs.Facts.{Question, Fact, Branch}
use Rattle.calculus.specs.Walk.{Waiting, Walk, working, enter, cut_back}
use Rattle.format.specs.Records.{size}
use Rattle.format.specs.Checking.{or_none}
use Rattle.delimiters.specs.declared.Claim.{Claim}
use Rattle.question.specs.declared.Progress.{Progress}
use Rattle.question.specs.Posed.{asked}
use Rattle.rows.specs.Rows.{branch_of}
use Rattle.steps.specs.Offered.{offered, offered_child, tried_under}
use Rattle.branch.specs.declared.Split.{Split}
use Rattle.branch.specs.declared.Branch as code
use Rattle.branch.specs.Stack.{stack}

-- the children of the step in the record at a position, none where it does not fit on the branch
abbrev pub offered_in : List ℕ → Question → Branch → ℕ → Option (List (List Fact))
offered_in b u br at = offered b u br (at + 6) (size b at)

abbrev pub children_on : List ℕ → Question → Branch → ℕ → List (List Fact)
children_on b u br at = or_none (offered_in b u br at)

-- the facts of its child k, from 1
abbrev pub child_on : List ℕ → Question → Branch → ℕ → ℕ → List Fact
child_on b u br at k = offered_child b u br (at + 6) (size b at) k

-- the first of 8 to 10 that applies to the step under a claim, on the branch of the first count rows of the work area with so many splits pending; 0 for none
abbrev pub tried_at : Claim → List ℕ → Progress → ℕ → List ℤ → ℕ → ℕ → ℕ
tried_at claim b s at w count pending = tried_under claim b s (at + 6) (size b at) w count pending

-- the walk once it is taken on the branch br, where the splits ss are pending: format's `stepped`
abbrev pub stepped_on : List ℕ → Question → Branch → List (Waiting Branch (List Fact)) → ℕ → Walk Branch (List Fact)
stepped_on b u br ss at = enter ◌++◌ br (children_on b u br at) ss

-- a pending split, on the branch cut back to its mark
abbrev pub waiting_on : List ℕ → Question → Branch → Split → Waiting Branch (List Fact)
waiting_on b u br s = record { mark = br; child = child_on b u br s.at s.child; rest = drop s.child (children_on b u br s.at) }

-- the pending splits, the last first; each is cut back from the mark of the one after it
unfoldable pub waitings : List ℕ → Question → Branch → List Split → List (Waiting Branch (List Fact))
waitings b u br [] = []
waitings b u br (s ∷ ss) = waiting_on b u (take s.mark br) s ∷ waitings b u (take s.mark br) ss

abbrev pub walk_of : List ℕ → Question → Branch → List Split → Walk Branch (List Fact)
walk_of b u br ss = working br (waitings b u br ss)

-- the walk that the code's branch stands for, with the work area w
unfoldable pub state_of : List ℕ → Question → List ℤ → code.Branch → Walk Branch (List Fact)
state_of b u w c = walk_of b u (branch_of w c.count) (stack c)

-- "a closed branch is cut back to the mark of its last pending split": from c with the work area v to d with w
abbrev pub CutsBack : List ℕ → Progress → List ℤ → code.Branch → List ℤ → code.Branch → Type 0
CutsBack b s v c w d = state_of b (asked b s) w d ≡ cut_back ◌++◌ (waitings b (asked b s) (branch_of v c.count) (stack c))

-- the facts below the mark stand as they did, and the branch has grown from there
pub record KeepsBelow (mark : ℕ) (v w : List ℤ) (d : code.Branch) : Type 0 where
  pub below : branch_of w mark ≡ branch_of v mark
  pub behind : mark ≤ d.count
