-- What a ticket holds by its bytes; it is of proper form, or accepted, as the method takes what it holds.
use Prim.Native.Nat.{ℕ, ◌≤◌}
use mathlib.Core.Path.{◌≡◌, refl, sym, ◌∙◌, ap, subst}
use mathlib.Core.Bool.{Bool, true, false}
use mathlib.Core.Option.{Option}
use mathlib.Core.List.{List}
use lib.ListN.{length}
use lib.Dec.{eqb}
use lib.IntN.{ℤ}
use Rattle.lists.specs.Lists.{All}
use Rattle.calculus.specs.Limits.{fact_limit}
use Rattle.calculus.specs.Facts.{Question, Fact, Branch}
use Rattle.calculus.specs.Steps.{Step}
use Rattle.calculus.specs.Rules.{RuleSet}
use Rattle.calculus.specs.Instances.{IsStep}
use Rattle.format.specs.Question.{question, question_form}
use Rattle.format.specs.StepForms.{child_in_range}
use Rattle.format.specs.Reading.{State, Method, Ticket, Faulty, Done, read_behind}
use Rattle.format.specs.Checking.{Outcome, Refused, checker_by, accepted, outcome_of, verdict_by}
use Rattle.format.specs.ProperForm.{by_shape, ticket_form, steps_with_child}
use Rattle.format.specs.Demands.{LargeEnough}
use Rattle.format.proofs.Sizes.{sized, large_enough_law}
use Rattle.format.proofs.Asked.{question_few}
use Rattle.format.proofs.Behind.{Formed, formed_steps, formed_in_range, child_ok, Taken}
use Rattle.format.proofs.Claimed.{Claimed, claims_none, behind_claim, started, claimed→form, form→claimed, claimed_steps, ReadBehind, ticket→, →ticket}

-- the child field fits the claim
abbrev pub child_fits : Question → Bool → Step → ℕ → Bool
child_fits u true st c = eqb c 0
child_fits u false st c = child_in_range u.n st c

-- the bytes put the question u, claim "no solution" or strings, and hold steps, the model where there is one, and the end
pub record Holding (b : List ℕ) (u : Question) (claim : Bool) (model : Option (List ℤ)) : Type 0 where
  pub claimed : Claimed b (question_form b) u
  pub claim_is : claims_none claimed ≡ claim
  pub formed : Formed b u (child_fits u claim) (behind_claim claimed) (steps_with_child b) model

pub steps_in_range : {b : List ℕ} {u : Question} {x : Bool} {o : Option (List ℤ)} → Holding b u x o → All (λ t. IsStep u t.0) (steps_with_child b)
steps_in_range {b} {u} {x} {o} h = formed_in_range b u (child_fits u x) (behind_claim h.claimed) (steps_with_child b) o h.formed

-- and the method takes them to the state s
abbrev pub ReadAs : {B C : Type 0} → (Question → Method B C) → List ℕ → Question → State B C → Type 0
ReadAs method b u s = (x : Bool) × (o : Option (List ℤ)) × Holding b u x o × Taken (method u) (started (method u) x) (steps_with_child b) o s

module _ {B C : Type 0} (method : Question → Method B C) (b : List ℕ) (u : Question) where
  same_test : (x : Bool) → child_ok u (started (method u) x) ≡ child_fits u x
  same_test true = refl
  same_test false = refl

  read_as : {s : State B C} {q : ℕ} → ReadBehind method b (question_form b) u s q → ReadAs method b u s
  read_as {s} (c, x, e, r) =
      let same : steps_with_child b ≡ r.steps =
      claimed_steps c ∙ formed_steps b u (child_ok u (started (method u) x)) (behind_claim c) r.steps r.model r.formed in (
        x,
        r.model,
        record {
          claimed = c;
          claim_is = e;
          formed =
              subst (λ ts. Formed b u (child_fits u x) (behind_claim c) ts r.model) (sym same)
              (subst (λ ok. Formed b u ok (behind_claim c) r.steps r.model) (same_test x) r.formed);
        },
        subst (λ ts. Taken (method u) (started (method u) x) ts r.model s) (sym same) r.taken,
      )

  pub done→read : {s : State B C} {q : ℕ} → read_behind method b (question_form b) ≡ Done u s q → ReadAs method b u s
  done→read e = read_as (ticket→ method b (question_form b) e)

  formed_for : (x : Bool) (o : Option (List ℤ)) (h : Holding b u x o)
      → Formed b u (child_ok u (started (method u) x)) (behind_claim h.claimed) (steps_with_child b) o
  formed_for x o h = subst (λ ok. Formed b u ok (behind_claim h.claimed) (steps_with_child b) o) (sym (same_test x)) h.formed

  pub held→done : (x : Bool) (o : Option (List ℤ)) {s : State B C}
      → Holding b u x o
      → Taken (method u) (started (method u) x) (steps_with_child b) o s
      → (q : ℕ) × (read_behind method b (question_form b) ≡ Done u s q)
  held→done x o h k = (_, →ticket method b h.claimed x (steps_with_child b) o h.claim_is (formed_for x o h) k)

-- ---- proper form

pub proper→ : (b : List ℕ) (u : Question) {s : State ℕ ℕ} {q : ℕ} → ticket_form b ≡ Done u s q → ReadAs by_shape b u s
unfolding ticket_form
proper→ b u e = done→read by_shape b u e

pub →proper : (b : List ℕ) (u : Question) (x : Bool) (o : Option (List ℤ)) {s : State ℕ ℕ}
    → Holding b u x o
    → Taken (by_shape u) (started (by_shape u) x) (steps_with_child b) o s
    → (q : ℕ) × (ticket_form b ≡ Done u s q)
unfolding ticket_form
→proper b u x o h k = held→done by_shape b u x o h k

-- ---- checking, whatever the rules

-- the outcome o is no refusal
abbrev pub NoRefusal : Outcome → Type 0
NoRefusal o = (c r : ℕ) → Refused c r ≡ o → ⊥

module _ (rules : RuleSet) where
  pub record AcceptedAs (b : List ℕ) (o : Outcome) : Type 0 where
    pub asked : Question
    pub state : State Branch (List Fact)
    pub number : ℕ
    pub read : ReadAs (checker_by rules) b asked state
    pub few : length asked.constraints ≤ fact_limit
    pub gives : accepted asked state number ≡ o

  pub verdict→ : (work answer : ℕ) (b : List ℕ) (o : Outcome) → NoRefusal o → verdict_by rules work answer b ≡ o → AcceptedAs b o
  verdict→ work answer b o never e =
      read (read_behind (checker_by rules) b (question b)) refl (sym (sized rules work answer b (large_enough_law rules work answer b (never 1) e)) ∙ e)
    where
      read : (t : Ticket Branch (List Fact)) → read_behind (checker_by rules) b (question b) ≡ t → outcome_of t ≡ o → AcceptedAs b o
      read (Faulty c r) p e = absurd (never c r e)
      read (Done u s q) p e =
          let (c, x, k, r) = ticket→ (checker_by rules) b (question b) p in
          record {
            asked = u;
            state = s;
            number = q;
            read = read_as (checker_by rules) b u (claimed→form c, x, k, r);
            few = question_few b c.ended;
            gives = e;
          }

  pub →verdict : (work answer : ℕ) (b : List ℕ) (u : Question) (x : Bool) (o : Option (List ℤ)) (s : State Branch (List Fact))
      → LargeEnough work answer
      → length u.constraints ≤ fact_limit
      → Holding b u x o → Taken (checker_by rules u) (started (checker_by rules u) x) (steps_with_child b) o s
      → (q : ℕ) × (verdict_by rules work answer b ≡ accepted u s q)
  →verdict work answer b u x o s big few h k = (
    _,
    sized rules work answer b big
        ∙ ap outcome_of
        (→ticket (checker_by rules) b (form→claimed few h.claimed) x (steps_with_child b) o h.claim_is (formed_for (checker_by rules) b u x o h) k),
  )
