-- What holds of every state that the walk reaches.
use Rattle.std.specs.Prelude.{ℕ, ◌+◌, ◌≤◌, ◌≡◌, true, List, [], ◌∷◌, length, take, ℤ}
use Rattle.std.proofs.Math.Option.{some}
use Rattle.calculus.specs.Limits.{fact_limit, pending_limit, work_numbers}
use Rattle.calculus.specs.Facts.{Question, Fact, Branch}
use Rattle.format.specs.Records.{size}
use Rattle.format.specs.StepForms.{rule}
use Rattle.format.specs.Checking.{facts_within, children_within, room_for_all}
use Rattle.rows.specs.Rows.{branch_of}
use Rattle.question.specs.declared.Progress.{Progress}
use Rattle.question.specs.Posed.{asked, Posed}
use Rattle.steps.specs.Forms.{Formed}
use Rattle.steps.specs.Conclusions.{conclusions_of}
use Rattle.steps.specs.declared.Conclusions.TheVariants.{Several}
use Rattle.branch.specs.declared.Split.{Split}
use Rattle.branch.specs.declared.Branch as code
use Rattle.branch.specs.Stack.{stack}
use Rattle.derivation.specs.State.{offered_in}

-- the step in the record at a position fits on a branch with n children, and each of them is within the limits
pub record Splits (b : List ℕ) (u : Question) (br : Branch) (at n : ℕ) : Type 0 where
  pub formed : Formed b u (at + 6) (size b at)
  pub its_children : List (List Fact)
  pub fit : offered_in b u br at ≡ some its_children
  pub number : length its_children ≡ n
  pub within : children_within its_children ≡ true
  pub room : room_for_all (length br) its_children ≡ true

-- the question's constraints stand first on a branch
pub record Rooted (u : Question) (br : Branch) : Type 0 where
  pub long : length u.constraints ≤ length br
  pub first : take (length u.constraints) br ≡ u.constraints

-- a split, by a rule with several conclusions, is pending on a branch that has grown from its mark, after the question's constraints
pub record Pends (b : List ℕ) (u : Question) (br : Branch) (s : Split) : Type 0 where
  pub rooted : length u.constraints ≤ s.mark
  pub behind : s.mark ≤ length br
  pub several : conclusions_of (rule b (s.at + 6)) ≡ Several
  pub splits : Splits b u (take s.mark br) s.at s.last
  pub some_begun : 1 ≤ s.child
  pub some_left : s.child ≤ s.last

-- each on the branch at the mark of the one after it: so the marks rise
unfoldable pub AllPend : List ℕ → Question → Branch → List Split → Type 0
AllPend b u br [] = Unit {0}
AllPend b u br (s ∷ ss) = Pends b u br s × AllPend b u (take s.mark br) ss

pub record Ok (b : List ℕ) (u : Question) (br : Branch) (ss : List Split) : Type 0 where
  pub rooted : Rooted u br
  pub few : length br ≤ fact_limit
  pub small : facts_within br ≡ true
  pub few_pending : length ss ≤ pending_limit
  pub pend : AllPend b u br ss

-- a question that stands in the ticket, and a state in order
pub record InOrder (b : List ℕ) (s : Progress) (w : List ℤ) (c : code.Branch) : Type 0 where
  pub posed : Posed b s
  pub room : work_numbers ≤ length w
  pub ok : Ok b (asked b s) (branch_of w c.count) (stack c)
