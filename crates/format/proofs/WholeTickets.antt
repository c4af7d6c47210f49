-- Whole tickets as bytes, both ways: a ticket holds what it was written from, and is written from what it holds.
use Prim.Native.Nat.{ℕ, ◌≤◌}
use native.Mathlib.Omega.{arith}
use mathlib.Core.Path.{◌≡◌, refl, sym, ◌∙◌, ap, ap₂, subst}
use mathlib.Core.Logic.{inl}
use mathlib.Core.Bool.{Bool, true, false}
use mathlib.Core.Option.{Option}
use mathlib.Core.List.{List, [], ◌∷◌, ◌++◌, append_assoc}
use lib.ListN.{length, drop}
use lib.Seq.{drop_at}
use lib.Dec.{eqb}
use lib.IntN.{ℤ}
use borrow.Author.Tests.{eqb-true, eqb-false, le-leb}
use Rattle.lists.specs.Lists.{All}
use Rattle.calculus.specs.Limits.{column_limit, ticket_bytes}
use Rattle.calculus.specs.Facts.{Question, column_count}
use Rattle.calculus.specs.Steps.{Step}
use Rattle.format.specs.Records.{next}
use Rattle.format.specs.Question.{Progress, form_manner, question_form, head_rank}
use Rattle.format.specs.Reading.{claim_at}
use Rattle.format.specs.ProperForm.{steps_with_child}
use Rattle.format.specs.Written.{u16_bytes, question_bytes, claim_record, step_records, beginning, QuestionInRange, OperandsInRange}
use Rattle.format.specs.Demands.{Bytes, Delimited, PutsQuestion}
use Rattle.format.proofs.BytesRead.{record_leads}
use Rattle.format.proofs.Bodies.{few_columns}
use Rattle.format.proofs.QuestionRecords.{reached}
use Rattle.format.proofs.QuestionsRead.{behind_question, question_read, form_in}
use Rattle.format.proofs.Questions.{question_written}
use Rattle.format.proofs.Asked.{read_plain}
use Rattle.format.proofs.Behind.{Formed, formed_steps}
use Rattle.format.proofs.RecordsBehind.{claim_read, claim_written, ending_bytes, EndingInRange, Fine, →formed, formed→}
use Rattle.format.proofs.Claimed.{Claimed, claims_none, behind_claim, claimed_headed, claimed_steps}
use Rattle.format.proofs.Tickets.{child_fits, Holding}

pub columns_few : (u : Question) → QuestionInRange u → column_count u ≤ column_limit
columns_few u q = few_columns u (record { strings = q.few_strings; integers = q.few_integers; literals = q.few_literals })

-- ---- the bytes of a beginning

pub beginning_is : (u : Question) (claim : ℕ) (ts : List (Step × ℕ)) (rest : List ℕ)
    → beginning u claim ts ++ rest ≡ question_bytes u [] ++ (claim_record claim ++ (step_records ts ++ rest))
beginning_is u claim ts rest =
    append_assoc (question_bytes u []) (claim_record claim ++ step_records ts) rest
    ∙ ap (λ l. question_bytes u [] ++ l) (append_assoc (claim_record claim) (step_records ts) rest)

-- a claim ends the question
pub claim_delimits : (claim : ℕ) (rest : List ℕ) → Delimited (claim_record claim ++ rest)
claim_delimits claim rest =
    let body : List ℕ = u16_bytes (claim ∷ []) in
    record {
      size = length body;
      of_kind = 5;
      more = body ++ rest;
      claim_or_end = inl refl;
      leading = record_leads 5 body rest;
    }

-- the question stands up to the claim
up_to_claim : (b : List ℕ) (u : Question) → Bytes b → (c : Claimed b (question_form b) u) → PutsQuestion b u [] × (c.position ≡ length (question_bytes u []))
up_to_claim b u all c =
    let w = question_written form_manner b all c.ended (claimed_headed c) in
    subst (λ es. PutsQuestion b u es × (c.position ≡ length (question_bytes u es))) (read_plain form_manner (omega arith) b c.ended) (w.begins, w.position)

-- "1 for no solution, 2 for strings"
abbrev pub claim_number : Bool → ℕ
claim_number true = 1
claim_number false = 2

claim_known : (x : Bool) → (1 ≤ claim_number x) × (claim_number x ≤ 2) × (eqb (claim_number x) 1 ≡ x)
claim_known true = (omega arith, omega arith, refl)
claim_known false = (omega arith, omega arith, refl)

claim_numbered : (k : ℕ) (x : Bool) → eqb k 1 ≡ x → 1 ≤ k → k ≤ 2 → k ≡ claim_number x
claim_numbered k true e l h = eqb-true k 1 e
claim_numbered k false e l h = let other = eqb-false k 1 e in omega arith

-- ---- what stands in a ticket

module _ (b : List ℕ) (u : Question) (x : Bool) (o : Option (List ℤ)) where
  -- records of these forms hold these steps
  held : (c : Claimed b (question_form b) u) (ts : List (Step × ℕ)) → claims_none c ≡ x → Formed b u (child_fits u x) (behind_claim c) ts o
      → Holding b u x o × (steps_with_child b ≡ ts)
  held c ts e f =
      let same : steps_with_child b ≡ ts = claimed_steps c ∙ formed_steps b u (child_fits u x) (behind_claim c) ts o f in
      (record { claimed = c; claim_is = e; formed = subst (λ ts. Formed b u (child_fits u x) (behind_claim c) ts o) (sym same) f }, same)

  -- from the bytes of values in range
  pub →holding : (ts : List (Step × ℕ)) → QuestionInRange u → length b ≤ ticket_bytes → All (Fine u (child_fits u x)) ts → EndingInRange u o
      → b ≡ beginning u (claim_number x) ts ++ ending_bytes o
      → Holding b u x o × (steps_with_child b ≡ ts)
  →holding ts q few fine ending e =
      let behind : List ℕ = step_records ts ++ ending_bytes o in
      let rest : List ℕ = claim_record (claim_number x) ++ behind in
      let parts : b ≡ question_bytes u [] ++ rest = e ∙ beginning_is u (claim_number x) ts (ending_bytes o) in
      let asked =
      question_read form_manner b u [] (record { is_in_range = q; named = tt; rest = rest; bytes = parts; delimited = claim_delimits (claim_number x) behind; few = few })
      (form_in u) in
      let at : ℕ = length (question_bytes u []) in
      let s : Progress = reached asked.last u [] in
      let (least, most, is) = claim_known x in
      let claim =
      claim_read b s at (claim_number x) behind (le-leb head_rank asked.last asked.has_head) least most
      (ap (drop at) parts ∙ drop_at (question_bytes u []) rest at refl) in
      held (record {
        last = asked.last;
        extended = [];
        position = at;
        number = behind_question u [];
        ended = asked.ends;
        claim_formed = claim.fine;
      }) ts (ap (λ k. eqb k 1) claim.claims ∙ is)
      (→formed b u (columns_few u q) (child_fits u x) ts o (next b at) fine ending claim.rest_stands)

  -- the values that the bytes hold
  pub record Writes (ts : List (Step × ℕ)) : Type 0 where
    pub question : QuestionInRange u
    pub few : length b ≤ ticket_bytes
    pub steps : All (λ t. OperandsInRange u t.0 × (child_fits u x t.0 t.1 ≡ true)) ts
    pub ending : EndingInRange u o
    pub bytes : b ≡ beginning u (claim_number x) ts ++ ending_bytes o

  pub holding→ : Bytes b → Holding b u x o → Writes (steps_with_child b)
  holding→ all h =
      let c = h.claimed in
      let at : ℕ = c.position in
      let s : Progress = record { last = c.last; question = u; extended = c.extended } in
      let (w, position) = up_to_claim b u all c in
      let to-claim : b ≡ question_bytes u [] ++ drop at b =
      w.bytes ∙ ap (λ l. question_bytes u [] ++ l) (sym (ap (drop at) w.bytes ∙ drop_at (question_bytes u []) w.rest at (sym position))) in
      let claim = claim_written b s at all c.claim_formed in
      let number : claim_at b at ≡ claim_number x = claim_numbered (claim_at b at) x h.claim_is claim.at_least claim.at_most in
      let f = formed→ b u (columns_few u w.is_in_range) (child_fits u x) (steps_with_child b) o (next b at) all h.formed in
      record {
        question = w.is_in_range;
        few = w.few;
        steps = f.steps;
        ending = f.ending;
        bytes =
            to-claim
            ∙ ap (λ l. question_bytes u [] ++ l) (claim.stands ∙ ap₂ (λ k l. claim_record k ++ l) number f.bytes)
            ∙ sym (beginning_is u (claim_number x) (steps_with_child b) (ending_bytes o));
      }
