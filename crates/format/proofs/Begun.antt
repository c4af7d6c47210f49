-- Where a ticket begins, in words, with a question, a claim and steps that fit within the limits, reading comes to where they lead.
use Prim.Native.Nat.{ℕ, suc, ◌≤◌}
use native.Mathlib.Omega.{arith}
use mathlib.Core.Path.{◌≡◌, sym, ◌∙◌, ap, ap₂, subst}
use mathlib.Core.List.{List, [], ◌∷◌, ◌++◌, append_assoc, map-append}
use lib.ListN.{length, drop, length-append}
use lib.Dec.{eqb}
use Rattle.lists.specs.Lists.{All}
use Rattle.lists.proofs.Lists.{all_map, flat_map_snoc}
use Rattle.calculus.specs.Limits.{fact_limit}
use Rattle.calculus.specs.Facts.{Question, Fact, Branch}
use Rattle.calculus.specs.InRange.{FactsInRange}
use Rattle.calculus.specs.Steps.{Step}
use Rattle.calculus.specs.Instances.{Instance}
use Rattle.calculus.specs.Agreements.{BranchInRange}
use Rattle.calculus.specs.Walk.{Waiting, Walk, working, closed, enter}
use Rattle.calculus.specs.Derivations.{Path}
use Rattle.calculus.proofs.Fits.{instance→fits}
use Rattle.calculus.proofs.Leads.{Arrives, leads→walk}
use Rattle.calculus.proofs.Limits.{LimitsFrom, limits→walk, PathLimitsFrom, limits→path}
use Rattle.calculus.proofs.Walks.{StateInRange, step_in_range, led_in_range, takes→taken, taken_in_range, leaf_in_range}
use Rattle.format.specs.Records.{next}
use Rattle.format.specs.Question.{question, checking_manner}
use Rattle.format.specs.StepForms.{child_in_range}
use Rattle.format.specs.Reading.{State, proving, taking, stepped, steps_on, begin, read_behind}
use Rattle.format.specs.Checking.{or_none, checker}
use Rattle.format.specs.Written.{question_bytes, claim_record, step_record, step_records, with_child_zero, QuestionInRange, OperandsInRange, TakenInRange}
use Rattle.format.specs.Refusals.{Begins, OnTree, OnPath}
use Rattle.format.proofs.QuestionsRead.{plain_in}
use Rattle.format.proofs.OnItsWay.{steps_taken}
use Rattle.format.proofs.Behind.{StepAt, child_ok}
use Rattle.format.proofs.Ranges.{operands→step, question→head, question→facts}
use Rattle.format.proofs.Agreements.{agreements}
use Rattle.format.proofs.RecordsBehind.{Fine, fine_split, fine_splits, fine_taken, fine_read}
use Rattle.format.proofs.WholeTickets.{columns_few, beginning_is}
use Rattle.format.proofs.Beginnings.{Faultless, beginning_read}

-- ---- the bytes of a beginning

steps_more : (ts : List (Step × ℕ)) (s : Step × ℕ) (more : List ℕ) → step_records ts ++ (step_record s ++ more) ≡ step_records (ts ++ (s ∷ [])) ++ more
unfolding step_records
steps_more ts s more = sym (append_assoc (step_records ts) (step_record s) more) ∙ ap (λ l. l ++ more) (sym (flat_map_snoc step_record ts s))

-- and a step more
pub begins_more : (t : List ℕ) (u : Question) (claim : ℕ) (ts : List (Step × ℕ)) (s : Step × ℕ) (more : List ℕ) (r : ℕ)
    → Begins t u claim ts (step_record s ++ more) r
    → Begins t u claim (ts ++ (s ∷ [])) more (suc r)
begins_more t u claim ts s more r h = record {
  bytes =
      h.bytes ∙ beginning_is u claim ts (step_record s ++ more)
      ∙ ap (λ l. question_bytes u [] ++ (claim_record claim ++ l)) (steps_more ts s more)
      ∙ sym (beginning_is u claim (ts ++ (s ∷ [])) more);
  few_bytes = h.few_bytes;
  question = h.question;
  number = omega (arith, h.number, length-append ts (s ∷ []));
}

pub zero_more : (sts : List Step) (st : Step) → with_child_zero (sts ++ (st ∷ [])) ≡ with_child_zero sts ++ ((st, 0) ∷ [])
zero_more sts st = map-append (λ st. (st, 0)) sts (st ∷ [])

-- ---- a step that stands at a position

module _ (t : List ℕ) (u : Question) (q : QuestionInRange u) where
  -- in range, it has its form there, and what is after it
  pub split_read : (at : ℕ) (st : Step) (more : List ℕ) → OperandsInRange u st → drop at t ≡ step_record (st, 0) ++ more
      → StepAt t u (λ st c. eqb c 0) at (st, 0) × (drop (next t at) t ≡ more)
  split_read at st more g e = fine_read t u (columns_few u q) (λ st c. eqb c 0) at (st, 0) more (fine_split u st g) e

  pub taken_read : (at : ℕ) (s : Step × ℕ) (more : List ℕ) → TakenInRange u s → drop at t ≡ step_record s ++ more
      → StepAt t u (child_in_range u.n) at s × (drop (next t at) t ≡ more)
  taken_read at s more g e = fine_read t u (columns_few u q) (child_in_range u.n) at s more (fine_taken u s g) e

-- ---- steps that fit within the limits have no fault, and checking takes them to where they lead

module _ (u : Question) (q : QuestionInRange u) where
  -- from a state to another
  abbrev Goes : State Branch (List Fact) → List (Step × ℕ) → State Branch (List Fact) → Type 0
  Goes from ts to = Faultless (checker u) from ts × (steps_taken (checker u) from ts ≡ to)

  goes_on : (from to : State Branch (List Fact)) (s : Step × ℕ) (ts : List (Step × ℕ)) (middle : State Branch (List Fact)) → stepped (checker u) from s ≡ middle
      → Goes middle ts to
      → Goes (stepped (checker u) from s) ts to
  goes_on from to s ts middle e h = subst (λ s. Goes s ts to) (sym e) h

  proving_goes : (b : Branch) (ss : List (Waiting Branch (List Fact))) (sts : List Step) (k : Walk Branch (List Fact))
      → StateInRange u k
      → All (OperandsInRange u) sts
      → LimitsFrom u k sts
      → Arrives (Instance u) ◌++◌ k sts (working b ss)
      → Goes (proving k) (with_child_zero sts) (proving (working b ss))
  unfolding Arrives LimitsFrom Faultless
  proving_goes b ss [] k range g l h = (tt, ap proving h)
  proving_goes b ss (st ∷ sts) closed range g l h = absurd h
  proving_goes b ss (st ∷ sts) (working d rs) range (g, gs) l (cs, i, h) =
      let is_step = operands→step u st g in
      let (limits, later) = l cs i in
      let fitted = instance→fits u (question→head u q) d range.0 st is_step i in
      let (none, to) =
      goes_on (proving (working d rs)) (proving (working b ss)) (st, 0) (with_child_zero sts) (proving (enter ◌++◌ d cs rs))
      (ap (λ o. proving (enter ◌++◌ d (or_none o) rs)) fitted)
      (proving_goes b ss sts (enter ◌++◌ d cs rs) (step_in_range u (question→head u q) d st cs rs range is_step i) gs later h) in
      (((agreements.splits u d (length rs) st (record { head = question→head u q; facts = range.0 }) is_step).none.1 (cs, i, limits), none), to)

  taking_goes : (b : Branch) (ts : List (Step × ℕ)) (d : Branch)
      → FactsInRange u d
      → All (TakenInRange u) ts
      → PathLimitsFrom u d ts
      → Path u d ts b
      → Goes (taking d) ts (taking b)
  unfolding Path PathLimitsFrom Faultless
  taking_goes b [] d range g l h = (tt, ap taking h)
  taking_goes b (s ∷ ts) d range ((g, c), gs) l (f, k, h) =
      let is_step = operands→step u s.0 g in
      let (limits, later) = l f k in
      let fitted = takes→taken u (question→head u q) d s f range is_step k in
      let (none, to) =
      goes_on (taking d) (taking b) s ts (taking (d ++ f)) (ap (λ o. taking (d ++ or_none o)) fitted)
      (taking_goes b ts (d ++ f) (taken_in_range u (question→head u q) d s f range is_step k) gs later h) in
      (((agreements.taken u d s (record { head = question→head u q; facts = range }) is_step).none.1 (f, k, limits), none), to)

-- ---- where the words stand, reading stands

-- reading the ticket comes to a state at a position, where the rest stands, and record r
pub record ReadsTo (t : List ℕ) (u : Question) (s : State Branch (List Fact)) (rest : List ℕ) (r : ℕ) : Type 0 where
  pub position : ℕ
  pub stands : drop position t ≡ rest
  pub reads : read_behind checker t (question t) ≡ steps_on (checker u) t u s r position

module _ (t : List ℕ) (u : Question) where
  -- from the first byte on
  begins_reads : (claim : ℕ) (ts : List (Step × ℕ)) (rest : List ℕ) (r : ℕ) (s : State Branch (List Fact)) → 1 ≤ claim → claim ≤ 2
      → length u.constraints ≤ fact_limit
      → Begins t u claim ts rest r
      → All (Fine u (child_ok u (begin (checker u) claim))) ts
      → Faultless (checker u) (begin (checker u) claim) ts × (steps_taken (checker u) (begin (checker u) claim) ts ≡ s)
      → ReadsTo t u s rest r
  begins_reads claim ts rest r s least most room h fine (none, to) =
      let on =
      beginning_read checker checking_manner t u claim ts rest h.question
      (plain_in checking_manner u (omega arith) (λ _. room)) least most h.few_bytes fine none h.bytes in
      record {
        position = on.position;
        stands = on.stands;
        reads = on.reads ∙ ap₂ (λ s n. steps_on (checker u) t u s n on.position) to (sym h.number);
      }

  pub proving_reads : (b : Branch) (pending : ℕ) (rest : List ℕ) (r : ℕ) → OnTree t u b pending rest r
      → (ss : List (Waiting Branch (List Fact))) × (length ss ≡ pending) × BranchInRange u b × ReadsTo t u (proving (working b ss)) rest r
  proving_reads b pending rest r p =
      let q = p.begins.question in
      let w = question→head u q in
      let facts = question→facts u q in
      let sts : List Step = p.steps in
      let (ss, n, h) = leads→walk (Instance u) ◌++◌ u.constraints b sts pending p.leads in (
        ss,
        n,
        record { head = w; facts = led_in_range u w u.constraints b sts pending facts (all_map sts (operands→step u) p.is_in_range) p.leads },
        begins_reads 1 (with_child_zero sts) rest r (proving (working b ss)) (omega arith) (omega arith) p.within.question p.begins
            (fine_splits u sts p.is_in_range)
            (proving_goes u q b ss sts (working u.constraints []) (facts, tt) p.is_in_range (limits→walk u sts p.within) h),
      )

  pub taking_range : {b : Branch} {rest : List ℕ} {r : ℕ} → OnPath t u b rest r → BranchInRange u b
  taking_range {b} p =
      let q = p.begins.question in
      record {
        head = question→head u q;
        facts = leaf_in_range u (question→head u q) p.steps u.constraints b (question→facts u q)
            (all_map p.steps (λ s (g, c). operands→step u s.0 g) p.is_in_range) p.path;
      }

  pub taking_reads : (b : Branch) (rest : List ℕ) (r : ℕ) → OnPath t u b rest r → ReadsTo t u (taking b) rest r
  taking_reads b rest r p =
      let q = p.begins.question in
      let ts : List (Step × ℕ) = p.steps in
      begins_reads 2 ts rest r (taking b) (omega arith) (omega arith) p.within.question p.begins (all_map ts (fine_taken u) p.is_in_range)
      (taking_goes u q b ts u.constraints (question→facts u q) p.is_in_range (limits→path u ts p.within) p.path)
