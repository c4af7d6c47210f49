-- How much a ticket will need, document 02's L2: "reads a ticket's records and, judging no premise and treating every step as if it fitted, reports the number of
-- steps, the most facts on any branch and the most pending splits". Refusals are reading's, the numbers are those of a walk.
use Rattle.std.specs.Prelude.{ℕ, Bool, true, false, cond, List, [], ◌∷◌, map, length}
use Rattle.lists.specs.Lists.{maximum}
use Rattle.calculus.specs.Facts.{Question}
use Rattle.calculus.specs.Steps.{Step}
use Rattle.calculus.specs.Walk.{working, closed}
use Rattle.format.specs.Question.{question_form}
use Rattle.format.specs.Reading.{State, proving, taking, modelled, Method, stepped, Ticket, Faulty, Done, begin, read_behind}
use Rattle.format.specs.ProperForm.{by_shape, steps_with_child, claim_in}

-- ---- what a walk meets on its way, whatever a branch and a child are

-- the state before the first step and the one after each; a step that closes a branch also begins the next child, so every child that is begun is met
unfoldable pub states_met : {B C : Type 0} → Method B C → State B C → List (Step × ℕ) → List (State B C)
states_met w s [] = s ∷ []
states_met w s (t ∷ ts) = s ∷ states_met w (stepped w s t) ts

-- the facts on the branch, where count says how many a branch has; none once every branch is closed
abbrev pub facts_in : {B C : Type 0} → (B → ℕ) → State B C → ℕ
facts_in count (proving (working br ss)) = count br
facts_in count (proving closed) = 0
facts_in count (taking br) = count br
facts_in count (modelled br m) = count br

-- the pending splits: under claim 1 those with a child "not yet begun"; "Under claim 2 no split is ever pending"
abbrev pub pending_in : {B C : Type 0} → State B C → ℕ
pending_in (proving (working br ss)) = length ss
pending_in (proving closed) = 0
pending_in (taking br) = 0
pending_in (modelled br m) = 0

-- "the number of steps, the most facts on any branch and the most pending splits"
pub record Report : Type 0 where
  pub steps : ℕ
  pub facts : ℕ
  pub pending : ℕ

-- of a walk over steps from a state
abbrev pub report : {B C : Type 0} → (B → ℕ) → Method B C → State B C → List (Step × ℕ) → Report
report count w s ts = record {
  steps = length ts;
  facts = maximum (map (facts_in count) (states_met w s ts));
  pending = maximum (map pending_in (states_met w s ts));
}

-- ---- the operation

-- whether every branch is closed, or a model was read
abbrev pub complete : {B C : Type 0} → State B C → Bool
complete (proving (working br ss)) = false
complete (proving closed) = true
complete (taking br) = false
complete (modelled br m) = true

-- NeedRefused: the number and the record. Needs: the report.
pub data Need : Type 0 where
  NeedRefused : ℕ → ℕ → Need
  Needs : Report → Need

-- "a tree not closed at its end, or claim 2 without a model, gives 11"
abbrev pub need_by : (Question → Report) → Ticket ℕ ℕ → Need
need_by reported (Faulty c r) = NeedRefused c r
need_by reported (Done u s r) = cond (complete s) (Needs (reported u)) (NeedRefused 11 r)

-- the report of a ticket's steps, "treating every step as if it fitted"
abbrev pub report_of : List ℕ → Question → Report
report_of b u = report (λ k. k) (by_shape u) (begin (by_shape u) (claim_in b)) (steps_with_child b)

-- "The operation gives 2 to 7, and 4 also for a step after the last branch closed"; "It never gives 10": the question is read without looking for it
unfoldable pub needed : List ℕ → Need
needed b = need_by (report_of b) (read_behind by_shape b (question_form b))
