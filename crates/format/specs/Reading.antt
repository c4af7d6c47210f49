-- Reading after the question: the claim, the steps, the model and the end, record by record, whatever a step is taken for.
-- Checking takes steps as facts; proper form and what a ticket will need take them by their shapes.
use Rattle.std.specs.Prelude.{ℕ, zero, suc, ◌+◌, ◌*◌, Bool, true, false, cond, ◌&&◌, List, [], ◌∷◌, length, leb, eqb, ℤ}
use Rattle.calculus.specs.Limits.{value_limit}
use Rattle.calculus.specs.Facts.{Question, column_count}
use Rattle.calculus.specs.Steps.{Step}
use Rattle.calculus.specs.Walk.{Waiting, Walk, working, closed, enter}
use Rattle.format.specs.Fields.{u16, i32s, all_within}
use Rattle.format.specs.Records.{size, kind, next, whole, records, need}
use Rattle.format.specs.Question.{Progress, Reading, Stopped, Ended, head_read}
use Rattle.format.specs.StepForms.{rule, child_field, length_fits, operands_in_range, step_at, child_in_range}

-- what stands after the claim: the walk under claim 1; the branch under claim 2; the leaf and its model.
-- B is a branch, C a child.
pub data State (B C : Type 0) : Type 0 where
  proving : Walk B C → State B C
  taking : B → State B C
  modelled : B → List ℤ → State B C

-- how steps are taken; a fault is the first number that applies, 0 for none
pub record Method (B C : Type 0) : Type 0 where
  -- the branch of the question's constraints
  pub root : B
  -- a branch with the facts of a child
  pub add : B → C → B
  -- the children of a step
  pub children : B → Step → List C
  -- a branch with the child taken, by its number from 1
  pub taken : B → Step → ℕ → B
  -- 8 to 10 under claim 1
  pub split_fault : B → List (Waiting B C) → Step → ℕ
  -- 8 to 10 under claim 2
  pub taken_fault : B → Step → ℕ → ℕ
  -- 12 to 14
  pub leaf_fault : B → List ℤ → ℕ

-- the state once a step is taken, with its child field: under claim 1 its first child is entered, or the branch closes and the next child begins; under claim 2
-- the child taken is added. After the last closed branch and after the model no step may stand.
abbrev pub stepped : {B C : Type 0} → Method B C → State B C → Step × ℕ → State B C
stepped w (proving (working br ss)) t = proving (enter w.add br (w.children br t.0) ss)
stepped w (proving closed) t = proving closed
stepped w (taking br) t = taking (w.taken br t.0 t.1)
stepped w (modelled br v) t = modelled br v

-- ---- one record after the claim: a body of m bytes at a position

-- a step: 5, then 6, an unknown rule and child number included, then what taking it gives
abbrev pub step_fault : List ℕ → Question → Bool → ℕ → ℕ → ℕ → ℕ
step_fault b u child_ok later at m =
    need 5 (length_fits b at m) (need 6 (operands_in_range b u.p (column_count u) (rule b at) at m && child_ok) later)

-- "an i32 for each column, within ±100,000,000"
abbrev pub model_at : List ℕ → Question → ℕ → List ℤ
model_at b u at = i32s b at (column_count u)

abbrev pub model_fault : List ℕ → Question → ℕ → ℕ → ℕ → ℕ
model_fault b u later at m = need 5 (eqb m (4 * column_count u)) (need 6 (all_within value_limit (model_at b u at)) later)

-- "Under claim 1 the child field is 0", "Under claim 2 it is the child taken"; "a step follows the last closed branch"
abbrev pub body_fault : {B C : Type 0} → Method B C → List ℕ → Question → State B C → ℕ → ℕ → ℕ → ℕ
body_fault w b u (proving (working br ss)) k at m = need 4 (eqb k 6) (step_fault b u (eqb (child_field b at) 0) (w.split_fault br ss (step_at b at m)) at m)
body_fault w b u (proving closed) k at m = 4
body_fault w b u (taking br) k at m =
    cond (eqb k 6) (step_fault b u (child_in_range u.n (step_at b at m) (child_field b at)) (w.taken_fault br (step_at b at m) (child_field b at)) at m)
    (need 4 (eqb k 7) (model_fault b u (w.leaf_fault br (model_at b u at)) at m))
body_fault w b u (modelled br v) k at m = 4

-- an end record: "a byte follows the end record, counted at that end record", then its form
abbrev pub last_fault : List ℕ → ℕ → ℕ
last_fault b at = need 4 (eqb (next b at) (length b)) (need 5 (eqb (size b at) 0) 0)

-- the first number that applies to the record at a position, 0 for none
unfoldable pub fault : {B C : Type 0} → Method B C → List ℕ → Question → State B C → ℕ → ℕ
fault w b u s at = need 3 (whole b at) (cond (eqb (kind b at) 8) (last_fault b at) (body_fault w b u s (kind b at) (at + 6) (size b at)))

-- the step of the record at a position, with its child field
abbrev pub step_with_child : List ℕ → ℕ → Step × ℕ
step_with_child b at = (step_at b (at + 6) (size b at), child_field b (at + 6))

-- the state after a record without fault
unfoldable pub advanced : {B C : Type 0} → Method B C → List ℕ → Question → State B C → ℕ → State B C
advanced w b u (proving k) at = stepped w (proving k) (step_with_child b at)
advanced w b u (taking br) at = cond (eqb (kind b at) 6) (stepped w (taking br) (step_with_child b at)) (modelled br (model_at b u (at + 6)))
advanced w b u (modelled br v) at = modelled br v

-- ---- the records after the claim

-- Faulty: the refusal's number and record. Done: read to its end, with the question, the last state and the number of the end record.
pub data Ticket (B C : Type 0) : Type 0 where
  Faulty : ℕ → ℕ → Ticket B C
  Done : Question → State B C → ℕ → Ticket B C

-- what is left in a state, with the next record's number and the positions of the records left
unfoldable pub read_steps : {B C : Type 0} → Method B C → List ℕ → Question → State B C → ℕ → List ℕ → Ticket B C
read_steps w b u s r [] = Faulty 3 r
read_steps w b u s r (at ∷ ats) = elim (fault w b u s at) [
  | suc c ↦ Faulty (suc c) r
  | zero ↦ elim (eqb (kind b at) 8) [ true ↦ Done u s r | false ↦ read_steps w b u (advanced w b u s at) (suc r) ats ]
]

-- what is left from record r at a position on
abbrev pub steps_on : {B C : Type 0} → Method B C → List ℕ → Question → State B C → ℕ → ℕ → Ticket B C
steps_on w b u s r at = read_steps w b u s r (records b at)

-- ---- the whole ticket

-- "5 claim, once: u16, 1 for no solution, 2 for strings"; "an end without claim included"
abbrev pub claim_at : List ℕ → ℕ → ℕ
claim_at b at = u16 b (at + 6)

abbrev pub claim_fault : List ℕ → Progress → ℕ → ℕ
claim_fault b s at =
    need 3 (whole b at) (need 4 (head_read s && eqb (kind b at) 5) (need 5 (eqb (size b at) 2) (need 6 (leb 1 (claim_at b at) && leb (claim_at b at) 2) 0)))

abbrev pub begin : {B C : Type 0} → Method B C → ℕ → State B C
begin w claim = cond (eqb claim 1) (proving (working w.root [])) (taking w.root)

-- after the question, at the claim's position and record
abbrev pub read_claim : {B C : Type 0} → (Question → Method B C) → List ℕ → Progress → ℕ → ℕ → Ticket B C
read_claim method b s at r = elim (claim_fault b s at) [
  | suc c ↦ Faulty (suc c) r
  | zero ↦ steps_on (method s.question) b s.question (begin (method s.question) (claim_at b at)) (suc r) (next b at)
]

abbrev pub read_behind : {B C : Type 0} → (Question → Method B C) → List ℕ → Reading → Ticket B C
read_behind method b (Stopped c r) = Faulty c r
read_behind method b (Ended s at r) = read_claim method b s at r
