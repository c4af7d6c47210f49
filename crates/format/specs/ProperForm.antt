-- Proper form: "A ticket is of proper form when, read to its end with every step taken as if it fitted, none of 2 to 7 below applies,
-- and under claim 2 a model stands before the end". And what a ticket of proper form holds, all by the bytes sent.
use Rattle.std.specs.Prelude.{ℕ, ◌+◌, ◌≡◌, true, false, List, [], ◌∷◌, map, length, eqb, ℤ}
use Rattle.std.proofs.Math.Option.{get_or}
use Rattle.calculus.specs.Facts.{Question}
use Rattle.calculus.specs.Steps.{Step, shape}
use Rattle.calculus.specs.Children.{child_at}
use Rattle.calculus.specs.Walk.{Walk}
use Rattle.format.specs.Records.{kind, next, records}
use Rattle.format.specs.Question.{Reading, Stopped, Ended, question_form}
use Rattle.format.specs.Reading.{proving, modelled, Method, step_with_child, Ticket, Done, claim_at, read_behind}

-- "every step taken as if it fitted": a branch is the number of its facts, and none of 8 to 14 is looked for. Under claim 2 "a closing rule counts as a step,
-- adds no fact and closes nothing" (02, L2).
abbrev pub by_shape : Question → Method ℕ ℕ
by_shape u = record {
  root = length u.constraints;
  add = ◌+◌;
  children = λ k st. shape u.n st;
  taken = λ k st c. k + get_or (child_at (shape u.n st) c) 0;
  split_fault = λ k ss st. 0;
  taken_fault = λ k st c. 0;
  leaf_fault = λ k m. 0;
}

-- "none of 2 to 7": 11, at the end, is not among them
unfoldable pub ticket_form : List ℕ → Ticket ℕ ℕ
ticket_form b = read_behind by_shape b (question_form b)

-- proper form under claim 1: the bytes put the question u
abbrev pub ProperNoSolution : List ℕ → Question → Type 0
ProperNoSolution b u = (w : Walk ℕ ℕ) × (r : ℕ) × (ticket_form b ≡ Done u (proving w) r)

-- proper form under claim 2: the bytes put the question u, and the model m stands before the end
abbrev pub ProperStrings : List ℕ → Question → List ℤ → Type 0
ProperStrings b u m = (k : ℕ) × (r : ℕ) × (ticket_form b ≡ Done u (modelled k m) r)

-- ---- the steps of a ticket, each with its child field: the records after the claim, up to the first that is no step

unfoldable pub steps_at : List ℕ → List ℕ → List (Step × ℕ)
steps_at b [] = []
steps_at b (at ∷ ats) = elim (eqb (kind b at) 6) [ false ↦ [] | true ↦ step_with_child b at ∷ steps_at b ats ]

abbrev pub steps_behind : List ℕ → Reading → List (Step × ℕ)
steps_behind b (Stopped c r) = []
steps_behind b (Ended s at r) = steps_at b (records b (next b at))

abbrev pub steps_with_child : List ℕ → List (Step × ℕ)
steps_with_child b = steps_behind b (question_form b)

-- what a ticket claims, 1 or 2 where its claim has no fault
abbrev pub claim_behind : List ℕ → Reading → ℕ
claim_behind b (Stopped c r) = 0
claim_behind b (Ended s at r) = claim_at b at

abbrev pub claim_in : List ℕ → ℕ
claim_in b = claim_behind b (question_form b)

abbrev pub steps : List ℕ → List Step
steps b = map (λ (t : Step × ℕ). t.0) (steps_with_child b)
