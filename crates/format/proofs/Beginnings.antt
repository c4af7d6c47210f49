-- A ticket's beginning is read, whatever the method and the manner: where no step on the way has a fault, reading comes to the state after the steps, at the position
-- and the record after them.
use Prim.Native.Nat.{ℕ, suc, ◌+◌, ◌≤◌}
use native.Mathlib.Omega.{arith}
use mathlib.Core.Path.{◌≡◌, refl, sym, ◌∙◌, ap}
use mathlib.Core.Bool.{Bool}
use mathlib.Core.List.{List, [], ◌∷◌, ◌++◌, append_assoc, flat_map}
use lib.ListN.{length, drop}
use lib.Seq.{drop_at}
use lib.Dec.{eqb}
use borrow.Author.Tests.{leb-true, le-leb}
use Rattle.lists.specs.Lists.{All}
use Rattle.calculus.specs.Limits.{column_limit, ticket_bytes}
use Rattle.calculus.specs.Facts.{Question, column_count}
use Rattle.calculus.specs.Steps.{Step}
use Rattle.calculus.specs.Walk.{Waiting, working, closed}
use Rattle.format.specs.Records.{next}
use Rattle.format.specs.Question.{Manner, Progress, head_rank, read_in}
use Rattle.format.specs.StepForms.{child_in_range}
use Rattle.format.specs.Reading.{State, proving, taking, modelled, Method, stepped, step_with_child, fault, Done, steps_on, begin, read_behind}
use Rattle.format.specs.Written.{question_bytes, claim_record, step_record, step_records, end_record, beginning, QuestionInRange, record_behind}
use Rattle.format.proofs.OnItsWay.{steps_taken}
use Rattle.format.proofs.QuestionRecords.{reached}
use Rattle.format.proofs.QuestionsRead.{ReadIn, behind_question, question_read}
use Rattle.format.proofs.Behind.{StepAt, child_ok, body_fault_law, step_fault_law, end_fault}
use Rattle.format.proofs.StepTurns.{steps_done, turn_stepped, claim_clean}
use Rattle.format.proofs.RecordsBehind.{claim_read, end_read, Fine, fine_read}
use Rattle.format.proofs.WholeTickets.{columns_few, beginning_is, claim_delimits}

module _ {B C : Type 0} (w : Method B C) where
  -- no step has a fault on the way, and none stands after the last closed branch or after the model
  unfoldable pub Faultless : State B C → List (Step × ℕ) → Type 0
  Faultless s [] = Unit {0}
  Faultless (proving (working br ss)) (t ∷ ts) = (w.split_fault br ss t.0 ≡ 0) × Faultless (stepped w (proving (working br ss)) t) ts
  Faultless (proving closed) (t ∷ ts) = ⊥
  Faultless (taking br) (t ∷ ts) = (w.taken_fault br t.0 t.1 ≡ 0) × Faultless (stepped w (taking br) t) ts
  Faultless (modelled br m) (t ∷ ts) = ⊥

  module _ (b : List ℕ) (u : Question) where
    -- the number of a step that has its form is the method's
    pub split_fault : (br : B) (ss : List (Waiting B C)) (at : ℕ) (t : Step × ℕ) → StepAt b u (λ st c. eqb c 0) at t
        → fault w b u (proving (working br ss)) at ≡ w.split_fault br ss t.0
    split_fault br ss at t h =
        body_fault_law w b u (proving (working br ss)) at 6 h.is_whole h.is_step refl
        ∙ step_fault_law w b u (λ st c. eqb c 0) at (w.split_fault br ss (step_with_child b at).0) h
        ∙ ap (λ (t : Step × ℕ). w.split_fault br ss t.0) (sym h.holds)

    pub taken_fault : (br : B) (at : ℕ) (t : Step × ℕ) → StepAt b u (child_in_range u.n) at t → fault w b u (taking br) at ≡ w.taken_fault br t.0 t.1
    taken_fault br at t h =
        body_fault_law w b u (taking br) at 6 h.is_whole h.is_step refl
        ∙ step_fault_law w b u (child_in_range u.n) at (w.taken_fault br (step_with_child b at).0 (step_with_child b at).1) h
        ∙ ap (λ (t : Step × ℕ). w.taken_fault br t.0 t.1) (sym h.holds)

    -- a step without fault is taken
    step_taken : (ok : Step → ℕ → Bool) (s : State B C) (r at : ℕ) (t : Step × ℕ) → StepAt b u ok at t → fault w b u s at ≡ 0
        → steps_on w b u s r at ≡ steps_on w b u (stepped w s t) (suc r) (next b at)
    step_taken ok s r at t h none =
        turn_stepped w b u s r at (leb-true (next b at) (length b) h.is_whole) h.is_step none
        ∙ ap (λ (t : Step × ℕ). steps_on w b u (stepped w s t) (suc r) (next b at)) (sym h.holds)

    -- at the end record it is done
    pub end_done : (s : State B C) (r at : ℕ) → drop at b ≡ end_record → steps_on w b u s r at ≡ Done u s r
    end_done s r at e =
        let end = end_read b at e in
        let there : next b at ≤ length b = leb-true (next b at) (length b) end.is_whole in
        steps_done w b u s r at (omega arith) (end_fault w b u s at end) (ap (λ k. eqb k 8) end.is_end)

    module _ (few : column_count u ≤ column_limit) (rest : List ℕ) where
      -- reading goes on after so many steps
      pub record ComesTo (s : State B C) (r at : ℕ) (ts : List (Step × ℕ)) : Type 0 where
        pub position : ℕ
        pub stands : drop position b ≡ rest
        pub reads : steps_on w b u s r at ≡ steps_on w b u (steps_taken w s ts) (r + length ts) position

      one_more : (s : State B C) (r at : ℕ) (t : Step × ℕ) (ts : List (Step × ℕ)) → steps_on w b u s r at ≡ steps_on w b u (stepped w s t) (suc r) (next b at)
          → ComesTo (stepped w s t) (suc r) (next b at) ts
          → ComesTo s r at (t ∷ ts)
      one_more s r at t ts e c = record {
        position = c.position;
        stands = c.stands;
        reads =
            e ∙ c.reads
            ∙ ap (λ n. steps_on w b u (steps_taken w s (t ∷ ts)) n c.position) (let z : suc r + length ts ≡ r + suc (length ts) = omega arith in z);
      }

      pub steps_read : (ts : List (Step × ℕ)) (s : State B C) (r at : ℕ) → All (Fine u (child_ok u s)) ts → Faultless s ts → drop at b ≡ step_records ts ++ rest
          → ComesTo s r at ts
      unfolding Faultless step_records flat_map
      steps_read [] s r at f h e =
          record { position = at; stands = e; reads = ap (λ n. steps_on w b u s n at) (let z : r ≡ r + 0 = omega arith in z) }
      steps_read (t ∷ ts) (proving (working br ss)) r at (f, fs) (none, h) e =
          let (k, later) = fine_read b u few (λ st c. eqb c 0) at t (step_records ts ++ rest) f (e ∙ append_assoc (step_record t) (step_records ts) rest) in
          one_more (proving (working br ss)) r at t ts (step_taken (λ st c. eqb c 0) (proving (working br ss)) r at t k (split_fault br ss at t k ∙ none))
          (steps_read ts (stepped w (proving (working br ss)) t) (suc r) (next b at) fs h later)
      steps_read (t ∷ ts) (proving closed) r at f h e = absurd h
      steps_read (t ∷ ts) (taking br) r at (f, fs) (none, h) e =
          let (k, later) = fine_read b u few (child_in_range u.n) at t (step_records ts ++ rest) f (e ∙ append_assoc (step_record t) (step_records ts) rest) in
          one_more (taking br) r at t ts (step_taken (child_in_range u.n) (taking br) r at t k (taken_fault br at t k ∙ none))
          (steps_read ts (stepped w (taking br) t) (suc r) (next b at) fs h later)
      steps_read (t ∷ ts) (modelled br m) r at f h e = absurd h

-- the whole beginning
module _ {B C : Type 0} (method : Question → Method B C) (m : Manner) (t : List ℕ) (u : Question) (claim : ℕ) (ts : List (Step × ℕ)) (rest : List ℕ) where
  abbrev begun : State B C
  begun = begin (method u) claim

  pub record BeginningRead : Type 0 where
    pub position : ℕ
    pub stands : drop position t ≡ rest
    pub reads : read_behind method t (read_in m t)
        ≡ steps_on (method u) t u (steps_taken (method u) begun ts) (record_behind u ts) position

  pub beginning_read : QuestionInRange u → ReadIn m u [] → 1 ≤ claim → claim ≤ 2 → length t ≤ ticket_bytes → All (Fine u (child_ok u begun)) ts
      → Faultless (method u) begun ts
      → t ≡ beginning u claim ts ++ rest
      → BeginningRead
  beginning_read q i least most few fine none e =
      let behind : List ℕ = step_records ts ++ rest in
      let from : List ℕ = claim_record claim ++ behind in
      let parts : t ≡ question_bytes u [] ++ from = e ∙ beginning_is u claim ts rest in
      let asked =
      question_read m t u [] (record { is_in_range = q; named = tt; rest = from; bytes = parts; delimited = claim_delimits claim behind; few = few }) i in
      let at : ℕ = length (question_bytes u []) in
      let s : Progress = reached asked.last u [] in
      let c =
      claim_read t s at claim behind (le-leb head_rank asked.last asked.has_head) least most
      (ap (drop at) parts ∙ drop_at (question_bytes u []) from at refl) in
      let on = steps_read (method u) t u (columns_few u q) rest ts begun (suc (behind_question u [])) (next t at) fine none c.rest_stands in
      record {
        position = on.position;
        stands = on.stands;
        reads =
            ap (read_behind method t) asked.ends
            ∙ claim_clean method t s at (behind_question u []) c.fine
            ∙ ap (λ k. steps_on (method u) t u (begin (method u) k) (suc (behind_question u [])) (next t at)) c.claims
            ∙ on.reads
            ∙ ap (λ n. steps_on (method u) t u (steps_taken (method u) begun ts) n on.position) (number (length u.literals) (length u.constraints));
      }
    where
      number : (j k : ℕ) → suc (1 + j + k + 0) + length ts ≡ 2 + j + k + length ts
      number j k = omega arith
