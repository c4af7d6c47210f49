-- ThRefusals: 8 to 14 are given at the first record where, in words, they apply.
use Prim.Native.Nat.{ℕ, zero, suc, ◌+◌, ◌≤◌}
use native.Mathlib.Omega.{arith}
use native.Mathlib.Decide.{dec_le}
use mathlib.Core.Path.{◌≡◌, refl, sym, ◌∙◌, ap, ap₂, subst}
use mathlib.Core.Logic.{◌⊎◌, inl, inr}
use mathlib.Core.Bool.{Bool, true, false, cond, ◌&&◌}
use mathlib.Core.List.{List, [], ◌∷◌, ◌++◌, flat_map}
use lib.ListN.{length, drop}
use lib.Seq.{drop_at}
use lib.Dec.{leb, eqb}
use lib.IntN.{ℤ}
use borrow.Author.Tests.{leb-true, eqb-true, eqb-false}
use Rattle.lists.specs.Lists.{All}
use Rattle.lists.proofs.Lists.{all_map, all_append}
use Rattle.calculus.specs.Limits.{ticket_bytes, fact_limit}
use Rattle.calculus.specs.Facts.{Question, Fact, Branch}
use Rattle.calculus.specs.Agreements.{BranchInRange}
use Rattle.calculus.specs.InRange.{FactsInRange}
use Rattle.calculus.specs.Steps.{Step}
use Rattle.calculus.specs.Rules.{children}
use Rattle.calculus.specs.Instances.{Instance, IsStep}
use Rattle.calculus.specs.Walk.{Waiting, Walk, working, closed, enter}
use Rattle.calculus.specs.Derivations.{SplitLimits, ChildLimits, Takes, Path}
use Rattle.calculus.proofs.Fits.{instance→fits}
use Rattle.calculus.proofs.Leads.{Arrives, arrives_append, walk→leads, arrives_everywhere}
use Rattle.calculus.proofs.Limits.{LimitsFrom, PathLimitsFrom, walk→limits, limits_more, path_on, limits→path, path→limits, path_limits_more}
use Rattle.calculus.proofs.Walks.{children_kept, one_instance, one_child, takes→taken}
use Rattle.format.specs.Records.{size, kind, next, whole, records, need}
use Rattle.format.specs.Question.{Progress, Reading, Stopped, Ended, question, head_rank, head_read, checking_manner, question_fault}
use Rattle.format.specs.StepForms.{child_in_range}
use Rattle.format.specs.Reading.{State, proving, taking, modelled, Done, stepped, step_with_child, step_fault, model_at, model_fault, fault, advanced}
use Rattle.format.specs.Reading.{read_steps, steps_on, claim_at, claim_fault, begin, read_behind}
use Rattle.format.specs.Checking.{or_none, checker, Refused, outcome_of}
use Rattle.format.proofs.Sizes.{sized}
use Rattle.format.specs.Written.{question_bytes, claim_record, step_records, step_record, model_record, end_record, with_child_zero, QuestionInRange, OperandsInRange, TakenInRange}
use Rattle.format.specs.Refusals.{Begins, OnTree, OnPath, StepOnTree, StepOnPath, AtModel, SplitRefused, TakenRefused, LeafRefused, FirstRefusal}
use Rattle.format.specs.Refusals as refusals
use Rattle.format.specs.Demands.{Bytes, ThRefusals}
use Rattle.format.proofs.Faults.{another, none_applies}
use Rattle.format.proofs.Records.{records_none, records_more}
use Rattle.format.proofs.Behind.{EndAt, StepAt, NotOfForm, no_number, turn, end→, body→, step→, model→, body_fault_law, model_fault_law}
use Rattle.format.proofs.StepTurns.{at_claim, turn_faulty}
use Rattle.format.proofs.Asked.{read_plain, question_few}
use Rattle.format.proofs.Turns.{read_long}
use Rattle.format.proofs.Refusals.{InQuestion, question_number}
use Rattle.format.proofs.Ranges.{operands→step, question→head, question→facts}
use Rattle.format.proofs.Agreements.{agreements}
use Rattle.format.proofs.Beginnings.{end_done, split_fault, taken_fault}
use Rattle.format.proofs.Begun.{begins_more, zero_more, split_read, taken_read, ReadsTo, proving_reads, taking_range, taking_reads}
use Rattle.format.proofs.ChildFields.{child→}
use Rattle.format.proofs.StepsWritten.{step_written}
use Rattle.format.proofs.RecordsBehind.{claim_written, end_written, model_read, model_written}
use Rattle.format.proofs.WholeTickets.{columns_few, beginning_is}
use Rattle.format.proofs.QuestionsRead.{behind_question, crowded_read}
use Rattle.format.proofs.Questions.{question_written, crowded_written}

-- a number from 8 on is none of a record's form
late : {c : ℕ} → 8 ≤ c → NotOfForm c
late h = record { not_3 = λ e. omega arith; not_4 = λ e. omega arith; not_5 = λ e. omega arith; not_6 = λ e. omega arith }

-- the records from a position on, taken apart
first_record : (t : List ℕ) (at i : ℕ) (ats : List ℕ) → records t at ≡ i ∷ ats → (i ≡ at) × (records t (next t at) ≡ ats)
first_record t at i ats e = go (dec_le (at + 6) (length t))
  where
    go : Dec (at + 6 ≤ length t) → (i ≡ at) × (records t (next t at) ≡ ats)
    go (yes h) = let z : at ∷ records t (next t at) ≡ i ∷ ats = sym (records_more t at h) ∙ e in (cc, cc)
    go (no h) = absurd (let z : [] ≡ i ∷ ats = sym (records_none t at (omega arith)) ∙ e in let z : ◌≡◌ {A = ℕ} 0 1 = cc in omega arith)

-- two refusals that are equal have one number and one record
same_refusal : {c d q r : ℕ} → Refused c q ≡ Refused d r → (c ≡ d) × (q ≡ r)
same_refusal e = (cc, cc)

-- ---- where reading stands, the words stand

-- under claim 1, at a position and record r, on a branch with splits pending
record ProvingAt (t : List ℕ) (u : Question) (b : Branch) (ss : List (Waiting Branch (List Fact))) (at r : ℕ) : Type 0 where
  steps : List Step
  begins : Begins t u 1 (with_child_zero steps) (drop at t) r
  is_in_range : All (OperandsInRange u) steps
  few : length u.constraints ≤ fact_limit
  limits : LimitsFrom u (working u.constraints []) steps
  arrives : Arrives (Instance u) ◌++◌ (working u.constraints []) steps (working b ss)

module _ (t : List ℕ) (u : Question) where
  Standing : State Branch (List Fact) → ℕ → ℕ → Type 0
  Standing (proving (working b ss)) at r = ProvingAt t u b ss at r
  Standing (proving closed) at r = Unit {0}
  Standing (taking b) at r = OnPath t u b (drop at t) r
  Standing (modelled b m) at r = Unit {0}

  module _ {b : Branch} {ss : List (Waiting Branch (List Fact))} {at r : ℕ} (p : ProvingAt t u b ss at r) where
    all_steps : All (IsStep u) p.steps
    all_steps = all_map p.steps (operands→step u) p.is_in_range

    proving_range : BranchInRange u b
    proving_range =
        let q = p.begins.question in
        record {
          head = question→head u q;
          facts = (arrives_everywhere (Instance u) ◌++◌ (FactsInRange u) (IsStep u) (children_kept u (question→head u q)) (working u.constraints [])
              (working b ss) p.steps (question→facts u q, tt) all_steps p.arrives).0;
        }

    proving_words : (rest : List ℕ) → drop at t ≡ rest → OnTree t u b (length ss) rest r
    proving_words rest e = record {
      steps = p.steps;
      begins = subst (λ l. Begins t u 1 (with_child_zero p.steps) l r) e p.begins;
      is_in_range = p.is_in_range;
      within = record { question = p.few; steps = walk→limits u p.steps p.limits };
      leads = walk→leads (Instance u) ◌++◌ u.constraints b p.steps ss p.arrives;
    }

module _ (t : List ℕ) (bytes : Bytes t) (u : Question) where
  -- ---- a step more

  -- the bytes of a step that has its form
  step_bytes : (ok : Step → ℕ → Bool) (at : ℕ) → QuestionInRange u → StepAt t u ok at (step_with_child t at)
      → OperandsInRange u (step_with_child t at).0 × (drop at t ≡ step_record (step_with_child t at) ++ drop (next t at) t)
  step_bytes ok at q h = step_written t bytes u (columns_few u q) at h.is_whole h.is_step h.fits h.operands

  -- under claim 1 its child field is 0
  split_bytes : (at : ℕ) → QuestionInRange u → StepAt t u (λ st c. eqb c 0) at (step_with_child t at)
      → OperandsInRange u (step_with_child t at).0 × (drop at t ≡ step_record ((step_with_child t at).0, 0) ++ drop (next t at) t)
  split_bytes at q h =
      let (g, e) = step_bytes (λ st c. eqb c 0) at q h in
      (g, e ∙ ap (λ c. step_record ((step_with_child t at).0, c) ++ drop (next t at) t) (eqb-true (step_with_child t at).1 0 h.child_ok_law))

  proving_on : {b : Branch} {ss : List (Waiting Branch (List Fact))} {at r : ℕ} (p : ProvingAt t u b ss at r) (st : Step) (cs : List (List Fact))
      → OperandsInRange u st
      → drop at t ≡ step_record (st, 0) ++ drop (next t at) t
      → Instance u b st cs
      → SplitLimits b (length ss) cs
      → (k : Walk Branch (List Fact)) → enter ◌++◌ b cs ss ≡ k → Standing t u (proving k) (next t at) (suc r)
  unfolding Standing Arrives
  proving_on p st cs g e i l closed z = tt
  proving_on {b} {ss} {at} {r} p st cs g e i l (working d rs) z =
      let q = p.begins.question in
      let w = question→head u q in
      let root : Walk Branch (List Fact) = working u.constraints [] in
      let range = proving_range t u p in
      record {
        steps = p.steps ++ (st ∷ []);
        begins =
            subst (λ ts. Begins t u 1 ts (drop (next t at) t) (suc r)) (sym (zero_more p.steps st))
            (begins_more t u 1 (with_child_zero p.steps) (st, 0) (drop (next t at) t) r
            (subst (λ l. Begins t u 1 (with_child_zero p.steps) l r) e p.begins));
        is_in_range = all_append (OperandsInRange u) p.steps (st ∷ []) p.is_in_range (g, tt);
        few = p.few;
        limits =
            limits_more u w b ss st
            (λ ds j. subst (SplitLimits b (length ss)) (one_instance u w b st cs ds range.facts (operands→step u st g) i j) l)
            p.steps root (question→facts u q, tt) (all_steps t u p) p.limits p.arrives;
        arrives = arrives_append (Instance u) ◌++◌ root (working b ss) (working d rs) p.steps (st ∷ []) p.arrives (cs, i, z);
      }

  taking_on : (b : Branch) (at r : ℕ) (p : OnPath t u b (drop at t) r) (s : Step × ℕ) (c : List Fact)
      → TakenInRange u s
      → drop at t ≡ step_record s ++ drop (next t at) t
      → Takes u b s c
      → ChildLimits b c
      → OnPath t u (b ++ c) (drop (next t at) t) (suc r)
  taking_on b at r p s c g e k l =
      let q = p.begins.question in
      let w = question→head u q in
      let ts : List (Step × ℕ) = p.steps in
      let all = all_map ts (λ s (g, c). operands→step u s.0 g) p.is_in_range in
      record {
        steps = ts ++ (s ∷ []);
        begins = begins_more t u 2 ts s (drop (next t at) t) r (subst (λ l. Begins t u 2 ts l r) e p.begins);
        is_in_range = all_append (TakenInRange u) ts (s ∷ []) p.is_in_range (g, tt);
        within = record {
          question = p.within.question;
          steps = path→limits u (ts ++ (s ∷ []))
              (path_limits_more u w b s
              (λ d j. subst (ChildLimits b) (one_child u w b s c d (taking_range t u p).facts (operands→step u s.0 g.0) k j) l)
              ts u.constraints (question→facts u q) all (limits→path u ts p.within) p.path);
        };
        path = path_on u u.constraints b ts s c p.path k;
      }

  -- ---- a number from 8 on at a record

  module _ (at r c : ℕ) (l : 8 ≤ c) where
    positive : 1 ≤ c
    positive = omega arith

    -- at a step or the model under claim 2
    taking_refused : (b : Branch) → OnPath t u b (drop at t) r → (y : Bool) → eqb (kind t at) 6 ≡ y → whole t at ≡ true
        → cond y
        (step_fault t u (child_in_range u.n (step_with_child t at).0 (step_with_child t at).1)
        ((checker u).taken_fault b (step_with_child t at).0 (step_with_child t at).1) (at + 6) (size t at))
        (need 4 (eqb (kind t at) 7) (model_fault t u ((checker u).leaf_fault b (model_at t u (at + 6))) (at + 6) (size t at))) ≡ c
        → FirstRefusal t c r
    taking_refused b p true y h f =
        let (s, e) = step→ (checker u) t u (late l) (child_in_range u.n) at ((checker u).taken_fault b (step_with_child t at).0 (step_with_child t at).1) h y f in
        let (g, d) = step_bytes (child_in_range u.n) at p.begins.question s in
        refusals.taken (record {
          more = drop (next t at) t;
          stands = subst (λ l. OnPath t u b l r) d p;
          is_in_range = (g, child→ u (step_with_child t at) s.child_ok_law);
        }) (((agreements.taken u b (step_with_child t at) (taking_range t u p) (operands→step u (step_with_child t at).0 g)).refused c positive).0 e)
    taking_refused b p false y h f =
        let m : List ℤ = model_at t u (at + 6) in
        let (s, e) = model→ (checker u) t u (late l) at ((checker u).leaf_fault b m) h f in
        let (g, d) = model_written t u (columns_few u p.begins.question) at m bytes s in
        refusals.model (record { more = drop (next t at) t; stands = subst (λ l. OnPath t u b l r) d p; is_in_range = g })
        (((agreements.leaves u b m (taking_range t u p)).refused c positive).0 e)

    refused_at : (s : State Branch (List Fact)) → Standing t u s at r → (x : Bool) → eqb (kind t at) 8 ≡ x → fault (checker u) t u s at ≡ c → FirstRefusal t c r
    unfolding Standing
    refused_at s p true k f = absurd (let z = (end→ (checker u) t u (late l) s at k f).1 in omega arith)
    refused_at (proving (working b ss)) p false k f =
        let (h, f4) = body→ (checker u) t u (late l) (proving (working b ss)) at k f in
        let split : ℕ = (checker u).split_fault b ss (step_with_child t at).0 in
        let (y, f5) = another 4 (eqb (kind t at) 6) (step_fault t u (eqb (step_with_child t at).1 0) split (at + 6) (size t at)) (late l).not_4 f4 in
        let (s, e) = step→ (checker u) t u (late l) (λ st c. eqb c 0) at split h y f5 in
        let (g, d) = split_bytes at p.begins.question s in
        refusals.split (record { more = drop (next t at) t; stands = proving_words t u p (step_record ((step_with_child t at).0, 0) ++ drop (next t at) t) d; operands = g })
        (((agreements.splits u b (length ss) (step_with_child t at).0 (proving_range t u p) (operands→step u (step_with_child t at).0 g)).refused c positive).0 e)
    refused_at (proving closed) p false k f = absurd (let z : 4 ≡ c = (body→ (checker u) t u (late l) (proving closed) at k f).1 in omega arith)
    refused_at (taking b) p false k f =
        let (h, f4) = body→ (checker u) t u (late l) (taking b) at k f in
        taking_refused b p (eqb (kind t at) 6) refl h f4
    refused_at (modelled b m) p false k f = absurd (let z : 4 ≡ c = (body→ (checker u) t u (late l) (modelled b m) at k f).1 in omega arith)

  -- ---- 11 at the end

  ended : (s : State Branch (List Fact)) (at r c q : ℕ) → Standing t u s at r → EndAt t at → outcome_of (Done u s r) ≡ Refused c q → FirstRefusal t c q
  unfolding Standing
  ended (proving (working b ss)) at r c q p h o =
      let (x, y) = same_refusal o in
      subst (λ c. FirstRefusal t c q) x (subst (FirstRefusal t 11) y (refusals.unclosed (proving_words t u p end_record (end_written t at bytes h))))
  ended (proving closed) at r c q p h o = absurd (let z : ◌≡◌ {A = ℕ} 0 1 = cc in omega arith)
  ended (taking b) at r c q p h o =
      let (x, y) = same_refusal o in
      subst (λ c. FirstRefusal t c q) x (subst (FirstRefusal t 11) y (refusals.unmodelled (subst (λ l. OnPath t u b l r) (end_written t at bytes h) p)))
  ended (modelled b m) at r c q p h o = absurd (let z : ◌≡◌ {A = ℕ} 0 1 = cc in omega arith)

  -- ---- record by record

  module _ (c q : ℕ) (l : 8 ≤ c) where
    abbrev Gives : State Branch (List Fact) → ℕ → List ℕ → Type 0
    Gives s r ats = outcome_of (read_steps (checker u) t u s r ats) ≡ Refused c q

    module _ (ats : List ℕ) (later : (s : State Branch (List Fact)) (at r : ℕ) → records t at ≡ ats → Standing t u s at r → Gives s r ats → FirstRefusal t c q)
        (at r : ℕ) (e : records t (next t at) ≡ ats) where
      -- a step or a model is taken under claim 2
      taking_turn : (b : Branch) → OnPath t u b (drop at t) r → (y : Bool) → eqb (kind t at) 6 ≡ y → whole t at ≡ true
          → cond y
          (step_fault t u (child_in_range u.n (step_with_child t at).0 (step_with_child t at).1)
          ((checker u).taken_fault b (step_with_child t at).0 (step_with_child t at).1) (at + 6) (size t at))
          (need 4 (eqb (kind t at) 7) (model_fault t u ((checker u).leaf_fault b (model_at t u (at + 6))) (at + 6) (size t at))) ≡ 0
          → Gives (cond y (stepped (checker u) (taking b) (step_with_child t at)) (modelled b (model_at t u (at + 6)))) (suc r) ats
          → FirstRefusal t c q
      unfolding Standing
      taking_turn b p true y h f o =
          let s : Step × ℕ = step_with_child t at in
          let (here, none) = step→ (checker u) t u no_number (child_in_range u.n) at ((checker u).taken_fault b s.0 s.1) h y f in
          let (g, d) = step_bytes (child_in_range u.n) at p.begins.question here in
          let range = taking_range t u p in
          let is_step = operands→step u s.0 g in
          let (f, k, limits) = (agreements.taken u b s range is_step).none.0 none in
          later (taking (b ++ f)) (next t at) (suc r) e
          (taking_on b at r p s f (g, child→ u s here.child_ok_law) d k limits)
          (subst (λ x. Gives (taking (b ++ or_none x)) (suc r) ats) (takes→taken u range.head b s f range.facts is_step k) o)
      taking_turn b p false y h f o = later (modelled b (model_at t u (at + 6))) (next t at) (suc r) e tt o

      turned : (s : State Branch (List Fact)) → Standing t u s at r → (f : ℕ) (x : Bool) → fault (checker u) t u s at ≡ f → eqb (kind t at) 8 ≡ x
          → outcome_of (turn (checker u) t u s r at ats f x) ≡ Refused c q
          → FirstRefusal t c q
      unfolding Standing advanced
      turned s p (suc f) x y z o =
          let (i, j) = same_refusal o in
          subst (FirstRefusal t c) j (refused_at at r c l s p x z (y ∙ i))
      turned s p zero true y z o = ended s at r c q p (end→ (checker u) t u no_number s at z y).0 o
      turned (proving (working b ss)) p zero false y z o =
          let st : Step = (step_with_child t at).0 in
          let split : ℕ = (checker u).split_fault b ss st in
          let (h, f4) = body→ (checker u) t u no_number (proving (working b ss)) at z y in
          let (k, f5) = none_applies 3 (eqb (kind t at) 6) (step_fault t u (eqb (step_with_child t at).1 0) split (at + 6) (size t at)) f4 in
          let (here, none) = step→ (checker u) t u no_number (λ st c. eqb c 0) at split h k f5 in
          let (g, d) = split_bytes at p.begins.question here in
          let range = proving_range t u p in
          let is_step = operands→step u st g in
          let (cs, i, limits) = (agreements.splits u b (length ss) st range is_step).none.0 none in
          later (proving (enter ◌++◌ b cs ss)) (next t at) (suc r) e (proving_on p st cs g d i limits (enter ◌++◌ b cs ss) refl)
          (subst (λ x. Gives (proving (enter ◌++◌ b (or_none x) ss)) (suc r) ats) (instance→fits u range.head b range.facts st is_step i) o)
      turned (proving closed) p zero false y z o = absurd (let four : ◌≡◌ {A = ℕ} 4 0 = (body→ (checker u) t u no_number (proving closed) at z y).1 in omega arith)
      turned (taking b) p zero false y z o =
          let (h, f) = body→ (checker u) t u no_number (taking b) at z y in
          taking_turn b p (eqb (kind t at) 6) refl h f o
      turned (modelled b m) p zero false y z o = absurd (let four : ◌≡◌ {A = ℕ} 4 0 = (body→ (checker u) t u no_number (modelled b m) at z y).1 in omega arith)

    steps_apply : (ats : List ℕ) (s : State Branch (List Fact)) (at r : ℕ) → records t at ≡ ats → Standing t u s at r → Gives s r ats → FirstRefusal t c q
    unfolding read_steps
    steps_apply [] s at r e p o = absurd (let (z, _) = same_refusal o in omega arith)
    steps_apply (i ∷ ats) s at r e p o =
        let (z, d) = first_record t at i ats e in
        turned ats (λ s at r. steps_apply ats s at r) at r d s p (fault (checker u) t u s at) (eqb (kind t at) 8) refl refl
        (subst (λ i. Gives s r (i ∷ ats)) z o)

-- ---- from the first byte on

-- what is asked of a question's numbers: none from 8 on but 10
abbrev OfQuestion : ℕ → Type 0
OfQuestion c = (c ≤ 7) ⊎ (c ≡ 10)

module _ (t : List ℕ) (bytes : Bytes t) (c q : ℕ) (l : 8 ≤ c) where
  -- in the question
  question_applies : (d r : ℕ) → question t ≡ Stopped d r → Refused d r ≡ Refused c q → FirstRefusal t c q
  question_applies d r e o =
      go (subst (InQuestion OfQuestion) e (question_number OfQuestion (λ c h g. inl g) t checking_manner (λ _. inr refl) (λ _. inl (omega arith)))) (dec_le (length t) ticket_bytes) (same_refusal o)
    where
      go : OfQuestion d → Dec (length t ≤ ticket_bytes) → (d ≡ c) × (r ≡ q) → FirstRefusal t c q
      go (inl h) _ (i, j) = absurd (omega arith)
      go (inr h) (no n) (i, j) =
          absurd (let z : Stopped d r ≡ Stopped 2 0 = sym e ∙ read_long (question_fault checking_manner) t (omega arith) in let z : d ≡ 2 = cc in omega arith)
      go (inr h) (yes few) (i, j) =
          let k = crowded_written checking_manner t bytes (omega arith) few r (e ∙ ap (λ d. Stopped d r) h) in
          subst (λ c. FirstRefusal t c q) (sym h ∙ i) (subst (FirstRefusal t 10) j
          (refusals.constraint k.question k.constraint k.rest k.bytes k.few k.is_in_range k.full k.number))

  module _ (s : Progress) (at r : ℕ) (e : question t ≡ Ended s at r) (f : claim_fault t s at ≡ 0) where
    abbrev u : Question
    u = s.question

    begun : (claim : ℕ) → claim_at t at ≡ claim → Begins t u claim [] (drop (next t at) t) (suc r)
    unfolding step_records flat_map
    begun claim z =
        let claimed = claim_written t s at bytes f in
        let written = question_written checking_manner t bytes e (leb-true head_rank s.last claimed.headed) in
        let none : s.extended ≡ [] = read_plain checking_manner (omega arith) t e in
        let begins = written.begins in
        let long : ℕ = length (question_bytes u s.extended) in
        let rest_stands : drop at t ≡ begins.rest =
        ap₂ drop written.position begins.bytes ∙ drop_at (question_bytes u s.extended) begins.rest long refl in
        record {
          bytes =
              subst (λ es. t ≡ question_bytes u es ++ drop at t) none (begins.bytes ∙ ap (λ l. question_bytes u s.extended ++ l) (sym rest_stands))
              ∙ ap (λ l. question_bytes u [] ++ l) (claimed.stands ∙ ap (λ k. claim_record k ++ drop (next t at) t) z)
              ∙ sym (beginning_is u claim [] (drop (next t at) t));
          few_bytes = begins.few;
          question = begins.is_in_range;
          number = omega (arith, written.number, ap length none);
        }

    -- after the claim, whichever it is
    claim_applies : outcome_of (steps_on (checker u) t u (begin (checker u) (claim_at t at)) (suc r) (next t at)) ≡ Refused c q → FirstRefusal t c q
    unfolding Standing Arrives LimitsFrom Path PathLimitsFrom
    claim_applies o = go (eqb (claim_at t at) 1) refl o
      where
        few : length u.constraints ≤ fact_limit
        few = question_few t e

        claims_two : eqb (claim_at t at) 1 ≡ false → claim_at t at ≡ 2
        claims_two z = let claimed = claim_written t s at bytes f in omega (arith, claimed.at_least, claimed.at_most, eqb-false (claim_at t at) 1 z)

        go : (x : Bool) → eqb (claim_at t at) 1 ≡ x
            → outcome_of (steps_on (checker u) t u (cond x (proving (working u.constraints [])) (taking u.constraints)) (suc r) (next t at)) ≡ Refused c q
            → FirstRefusal t c q
        go true z o =
            steps_apply t bytes u c q l (records t (next t at)) (proving (working u.constraints [])) (next t at) (suc r) refl
            (record { steps = []; begins = begun 1 (eqb-true (claim_at t at) 1 z); is_in_range = tt; few = few; limits = tt; arrives = refl })
            o
        go false z o =
            steps_apply t bytes u c q l (records t (next t at)) (taking u.constraints) (next t at) (suc r) refl
            (record { steps = []; begins = begun 2 (claims_two z); is_in_range = tt; within = record { question = few; steps = path→limits u [] tt }; path = refl })
            o

  reading_applies : (g : Reading) → question t ≡ g → outcome_of (read_behind checker t g) ≡ Refused c q → FirstRefusal t c q
  reading_applies (Stopped d r) e o = question_applies d r e o
  reading_applies (Ended s at r) e o = go (claim_fault t s at) refl o
    where
      go : (f : ℕ) → claim_fault t s at ≡ f → outcome_of (at_claim checker t s at r f) ≡ Refused c q → FirstRefusal t c q
      go zero z o = claim_applies s at r e z o
      go (suc f) z o =
          let (i, j) = same_refusal o in
          let n = late l in
          let tests : ℕ = need 5 (eqb (size t at) 2) (need 6 (leb 1 (claim_at t at) && leb (claim_at t at) 2) 0) in
          let a3 = another 3 (whole t at) (need 4 (head_read s && eqb (kind t at) 5) tests) n.not_3 (z ∙ i) in
          let a4 = another 4 (head_read s && eqb (kind t at) 5) tests n.not_4 a3.1 in
          let a5 = another 5 (eqb (size t at) 2) (need 6 (leb 1 (claim_at t at) && leb (claim_at t at) 2) 0) n.not_5 a4.1 in
          let a6 = another 6 (leb 1 (claim_at t at) && leb (claim_at t at) 2) 0 n.not_6 a5.1 in
          absurd (let none : 0 ≡ c = a6.1 in omega arith)

-- ---- and the other way: where the words stand, reading refuses

module _ (t : List ℕ) (c r : ℕ) (l : 8 ≤ c) where
  abbrev RefusesThere : Type 0
  RefusesThere = outcome_of (read_behind checker t (question t)) ≡ Refused c r

  -- at a whole record with this number
  refuses_at : (u : Question) (s : State Branch (List Fact)) (rest : List ℕ) (h : ReadsTo t u s rest r) → whole t h.position ≡ true
      → fault (checker u) t u s h.position ≡ c
      → RefusesThere
  refuses_at u s rest h w f =
      ap outcome_of (h.reads ∙ turn_faulty (checker u) t u s r h.position (leb-true (next t h.position) (length t) w) c (sym f) (λ z. omega arith))

  split_refuses : (u : Question) (b : Branch) (pending : ℕ) (st : Step) → StepOnTree t u b pending st r → SplitRefused u b pending st c → RefusesThere
  split_refuses u b pending st p w =
      let q = p.stands.begins.question in
      let (ss, n, range, h) = proving_reads t u b pending (step_record (st, 0) ++ p.more) r p.stands in
      let (here, _) = split_read t u q h.position st p.more p.operands h.stands in
      refuses_at u (proving (working b ss)) (step_record (st, 0) ++ p.more) h here.is_whole
      (split_fault (checker u) t u b ss h.position (st, 0) here
      ∙ ((agreements.splits u b (length ss) st range (operands→step u st p.operands)).refused c (omega arith)).1
      (subst (λ n. SplitRefused u b n st c) (sym n) w))

  taken_refuses : (u : Question) (b : Branch) (s : Step × ℕ) → StepOnPath t u b s r → TakenRefused u b s c → RefusesThere
  taken_refuses u b s p w =
      let q = p.stands.begins.question in
      let h = taking_reads t u b (step_record s ++ p.more) r p.stands in
      let (here, _) = taken_read t u q h.position s p.more p.is_in_range h.stands in
      refuses_at u (taking b) (step_record s ++ p.more) h here.is_whole
      (taken_fault (checker u) t u b h.position s here
      ∙ ((agreements.taken u b s (taking_range t u p.stands) (operands→step u s.0 p.is_in_range.0)).refused c (omega arith)).1 w)

  model_refuses : (u : Question) (leaf : Branch) (m : List ℤ) → AtModel t u leaf m r → LeafRefused u leaf m c → RefusesThere
  model_refuses u leaf m p w =
      let q = p.stands.begins.question in
      let h = taking_reads t u leaf (model_record m ++ p.more) r p.stands in
      let at : ℕ = h.position in
      let (read, _) = model_read t u (columns_few u q) at m p.more p.is_in_range h.stands in
      refuses_at u (taking leaf) (model_record m ++ p.more) h read.is_whole
      (body_fault_law (checker u) t u (taking leaf) at 7 read.is_whole read.is_model refl
      ∙ model_fault_law (checker u) t u at ((checker u).leaf_fault leaf (model_at t u (at + 6))) read
      ∙ ap ((checker u).leaf_fault leaf) (sym read.holds)
      ∙ ((agreements.leaves u leaf m (taking_range t u p.stands)).refused c (omega arith)).1 w)

ends : (t : List ℕ) (u : Question) (s : State Branch (List Fact)) (r : ℕ) → ReadsTo t u s end_record r → read_behind checker t (question t) ≡ Done u s r
ends t u s r h = h.reads ∙ end_done (checker u) t u s r h.position h.stands

applies_refuses : (t : List ℕ) {c r : ℕ} → 8 ≤ c → FirstRefusal t c r → outcome_of (read_behind checker t (question t)) ≡ Refused c r
applies_refuses t l (refusals.split {u = u} {b = b} {pending = pending} {c = c} {r = r} {st = st} p w) = split_refuses t c r l u b pending st p w
applies_refuses t l (refusals.taken {u = u} {b = b} {s = s} {c = c} {r = r} p w) = taken_refuses t c r l u b s p w
applies_refuses t l (refusals.constraint {r = r} u f rest e few range full n) =
    ap (λ g. outcome_of (read_behind checker t g)) (crowded_read checking_manner t u f rest refl (omega arith) range full few e)
    ∙ ap (Refused 10) (let z : behind_question u [] ≡ r = omega arith in z)
applies_refuses t l (refusals.unclosed {u = u} {b = b} {pending = pending} {r = r} p) =
    let (ss, n, range, h) = proving_reads t u b pending end_record r p in
    ap outcome_of (ends t u (proving (working b ss)) r h)
applies_refuses t l (refusals.unmodelled {u = u} {b = b} {r = r} p) = ap outcome_of (ends t u (taking b) r (taking_reads t u b end_record r p))
applies_refuses t l (refusals.model {u = u} {leaf = leaf} {m = m} {c = c} {r = r} p w) = model_refuses t c r l u leaf m p w

-- ---- both ways

pub refusals_in_words : ThRefusals
refusals_in_words work answer t big bytes c r l m =
    let read = sized children work answer t big in
    (λ e. reading_applies t bytes c r l (question t) refl (sym read ∙ e), λ h. read ∙ applies_refuses t l h)
