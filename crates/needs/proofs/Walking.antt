-- The loop over the steps: what is needed from where it stands, with the report so far, is what the ticket needs.
use Prim.Native.Nat.{ℕ, ◌+◌, ◌*◌, ◌≤◌, ◌<◌}
use native.Mathlib.Omega.{arith}
use native.Mathlib.Nat.{le-max_right}
use native.Mathlib.Numerals.{add-one}
use mathlib.Core.Path.{◌≡◌, refl, sym, ◌∙◌, ap, ap₂, subst}
use mathlib.Core.Bool.{true, false}
use mathlib.Core.List.{List, []}
use Rattle.std.specs.Prelude.{Option, Some, None, Ok, Err}
use lib.ListN.{length}
use borrow.Author.Tests.{eqb-true}
use Rattle.calculus.specs.Limits.{ticket_bytes}
use Rattle.calculus.specs.Walk.{Waiting}
use Rattle.format.specs.Records.{kind, next}
use Rattle.format.specs.StepForms.{form_for, rule}
use Rattle.format.specs.ProperForm.{by_shape}
use Rattle.format.specs.Reading.{State, taking, stepped, step_with_child, fault}
use Rattle.format.specs.Needs as goal
use Rattle.format.specs.Needs.{complete, facts_in, pending_in}
use Rattle.format.specs.Places.{constraints_from}
use Rattle.format.proofs.Decoded.{at_least}
use Rattle.format.proofs.Faults.{not_both}
use Rattle.format.proofs.Places.{length_facts}
use Rattle.question.specs.declared.Progress.{Progress}
use Rattle.question.specs.Posed.{asked}
use Rattle.delimiters.specs.declared.Claim.{Claim}
use Rattle.delimiters.specs.declared.Claim.TheVariants.{NoSolution, Strings}
use Rattle.delimiters.specs.Claims.{open_under, ends_at}
use Rattle.delimiters.proofs.Open.{open_number}
use Rattle.steps.proofs.Table.{least_four}
use Rattle.steps.proofs.Numbers.{tried_by}
use Rattle.faults.specs.Numbers.{number}
use Rattle.faults.specs.declared.Fault.{Fault}
use Rattle.faults.specs.declared.Fault.TheVariants.{CutShort}
use Rattle.faults.specs.declared.Refusal.{Refusal}
use Rattle.question.proofs.Refusals.{numbered}
use Rattle.needs.specs.declared.Walked.TheVariants.{Closed, Model}
use Rattle.needs.specs.declared.Report as code
use Rattle.needs.specs.Pending.{deepest}
use Rattle.needs.specs.Steps.{Fit, state_of, Enters}
use Rattle.needs.specs.Outcomes.{report_is, with_state, with_step, nothing_met, need_from, need_started, Within, WalksTo}
use Rattle.needs.proofs.Low.{Low, low_stepped, one_pends}
use Rattle.needs.proofs.Reports.{from_none, from_open, from_met, from_stepped}

-- ---- where a branch is open

open_facts : (claim : Claim) (f : ℕ) (ss : List (Waiting ℕ ℕ)) → facts_in (λ k. k) (open_under claim f ss) ≡ f
open_facts NoSolution f ss = refl
open_facts Strings f ss = refl

still_open : (claim : Claim) (f : ℕ) (ss : List (Waiting ℕ ℕ)) → complete (open_under claim f ss) ≡ false
still_open NoSolution f ss = refl
still_open Strings f ss = refl

open_low : (claim : Claim) (i f : ℕ) (ss : List (Waiting ℕ ℕ)) → Low i (open_under claim f ss) → f ≤ i
open_low NoSolution i f ss h = h.0
open_low Strings i f ss h = h

low_first : (claim : Claim) (i f : ℕ) → f ≤ i → Low i (open_under claim f [])
low_first NoSolution i f h = (h, tt)
low_first Strings i f h = h

first_depth : (claim : Claim) (f : ℕ) → pending_in {C = ℕ} (open_under claim f []) ≡ 0
first_depth NoSolution f = refl
first_depth Strings f = refl

-- a step is taken as if it fitted: none of 8 to 10
pub none_tried : (claim : Claim) (b : List ℕ) (s : Progress) (f : ℕ) (ss : List (Waiting ℕ ℕ)) (body m : ℕ) → tried_by (by_shape (asked b s)) claim b f ss body m ≡ 0
none_tried NoSolution b s f ss body m = refl
none_tried Strings b s f ss body m = refl

module _ (b : List ℕ) (s : Progress) where
  -- where the loop stands before record k at position i, on a branch of f facts with the splits ss pending: the outcome n is fixed
  pub record Going (claim : Claim) (n : goal.Need) (ss : List (Waiting ℕ ℕ)) (r : code.Report) (f i k : ℕ) : Type 0 where
    pub low : k ≤ i
    pub counted : r.steps ≤ k
    pub shallow : 10 * length ss ≤ i
    pub depth_is : pending_in (open_under claim f ss) ≡ length ss
    pub few : Low i (open_under claim f ss)
    pub rest : need_from b (asked b s) (open_under claim f ss) (report_is r) k i ≡ n

  pub starts : (claim : Claim) (at r : ℕ) → Within b s at r
      → Going claim (need_started claim b s r at) [] (record { steps = 0; facts = 0; pending = 0 }) s.constraints at r
  unfolding asked
  starts claim at r h = record {
    low = h.low;
    counted = omega arith;
    shallow = omega arith;
    depth_is = first_depth claim s.constraints;
    few = low_first claim at s.constraints h.counted;
    rest = ap (λ f. need_from b (asked b s) (open_under claim f []) nothing_met r at)
        (sym (length_facts b s.constraints (constraints_from b s.literals)));
  }

  -- ---- a state is met

  module _ {claim : Claim} {n : goal.Need} {ss : List (Waiting ℕ ℕ)} {r : code.Report} {f i k : ℕ} (g : Going claim n ss r f i k)
      (m : code.Report) (e : report_is m ≡ with_state (report_is r) f (length ss)) where
    -- the report has its facts and its pending splits
    has_facts : f ≤ m.facts
    has_facts = omega (arith, ap (λ (x : goal.Report). x.facts) e, le-max_right r.facts f)

    has_pending : length ss ≤ m.pending
    has_pending = omega (arith, ap (λ (x : goal.Report). x.pending) e, le-max_right r.pending (length ss))

    same_steps : m.steps ≡ r.steps
    same_steps = ap (λ (x : goal.Report). x.steps) e

    met_rest : need_from b (asked b s) (open_under claim f ss) (report_is m) k i ≡ n
    met_rest =
        ap (λ (x : goal.Report). need_from b (asked b s) (open_under claim f ss) x k i) (e
        ∙ ap₂ (with_state (report_is r)) (sym (open_facts claim f ss)) (sym g.depth_is))
        ∙ from_met b (asked b s) (open_under claim f ss) (report_is r) k i
        ∙ g.rest

    -- ---- a record that ends the steps

    pub going_none : length b < next b i → (q : Refusal) → (q.fault ≡ CutShort) × (q.record ≡ k) → WalksTo b s n (Err q)
    unfolding WalksTo
    going_none h q (ef, er) = rw (ef, er) (sym (from_none b (asked b s) (open_under claim f ss) (report_is r) k i h) ∙ g.rest)

    pub going_refused : next b i ≤ length b
        → (x : Fault)
        → number x ≡ open_number (by_shape (asked b s)) b (asked b s) (open_under claim f ss) i
        → (q : Refusal)
        → (q.fault ≡ x) × (q.record ≡ k)
        → WalksTo b s n (Err q)
    unfolding WalksTo
    going_refused h x e q (ef, er) =
        rw (ef, er) (sym (from_open b (asked b s) (open_under claim f ss) (report_is r) k i (still_open claim f ss) h (number x) e (numbered x)) ∙ g.rest)

    pub going_model : (at₀ r₀ j : ℕ) → Within b s at₀ r₀ → at₀ ≤ i → ends_at claim j ≡ true → j ≡ kind b i → next b i ≤ length b
        → WalksTo b s n (Ok (Model i k m))
    unfolding WalksTo
    going_model at₀ r₀ j h below q e w = record {
      here = record {
        within = record { few_strings = h.few_strings; few_integers = h.few_integers; short = h.short; counted = omega (arith, h.counted); low = g.low };
        model = sym e ∙ ends_model claim j q;
        whole = w;
      };
      facts = f;
      reported = has_facts;
      rest = subst (λ (st : State ℕ ℕ). need_from b (asked b s) st (report_is m) k i ≡ n) (taking_there claim j q) met_rest;
    }
      where
        ends_model : (c : Claim) (j : ℕ) → ends_at c j ≡ true → j ≡ 7
        ends_model NoSolution j q = absurd (not_both false q refl)
        ends_model Strings j q = eqb-true j 7 q

        taking_there : (c : Claim) (j : ℕ) → ends_at c j ≡ true → open_under c f ss ≡ taking f
        taking_there NoSolution j q = absurd (not_both false q refl)
        taking_there Strings j q = refl

    -- ---- a step

    module _ (z : ℕ) (fit : Fit claim b s i z) (w : next b i ≤ length b) (k6 : kind b i ≡ 6)
        (clean : fault (by_shape (asked b s)) b (asked b s) (open_under claim f ss) i ≡ 0) (m' : code.Report) (e' : report_is m' ≡ with_step (report_is m)) where
      -- a step takes ten bytes at least
      ten : i + 10 ≤ i + 6 + z
      ten = let r = rule b (i + 6) in omega (arith, at_least (form_for r) z fit.formed.fits, least_four r)

      onward : need_from b (asked b s) (stepped (by_shape (asked b s)) (open_under claim f ss) (step_with_child b i)) (report_is m') (k + 1) (i + 6 + z) ≡ n
      onward =
          ap (λ (x : goal.Report). need_from b (asked b s) next_state x (k + 1) (i + 6 + z)) e'
          ∙ ap₂ (λ l q. need_from b (asked b s) next_state (with_step (report_is m)) q (i + 6 + l)) fit.sized (add-one k)
          ∙ sym (from_stepped b (asked b s) (open_under claim f ss) (report_is m) k i
          (omega (arith, open_facts claim f ss, has_facts)) (omega (arith, g.depth_is, has_pending)) w k6 clean)
          ∙ met_rest
        where
          next_state : State ℕ ℕ
          next_state = stepped (by_shape (asked b s)) (open_under claim f ss) (step_with_child b i)

      pub going_closed : (ss' : List (Waiting ℕ ℕ)) (x : Option ℕ) → Enters claim b s i f ss ss' x → x ≡ None
          → WalksTo b s n (Ok (Closed (i + 6 + z) (k + 1) m'))
      unfolding WalksTo
      going_closed ss' x h q =
          ap (λ (st : State ℕ ℕ). need_from b (asked b s) st (report_is m') (k + 1) (i + 6 + z)) (ap (state_of claim ss') (sym q) ∙ h.state) ∙ onward

      pub going_open : (ss' : List (Waiting ℕ ℕ)) (x : Option ℕ) (f' : ℕ) → Enters claim b s i f ss ss' x → x ≡ Some f'
          → Going claim n ss' m' f' (i + 6 + z) (k + 1)
      going_open ss' x f' h q =
          let state : open_under claim f' ss' ≡ stepped (by_shape (asked b s)) (open_under claim f ss) (step_with_child b i) =
          ap (state_of claim ss') (sym q) ∙ h.state in
          let depth = h.depth f' g.depth_is in
          let one = one_pends (asked b s) (open_under claim f ss) (step_with_child b i) in
          record {
            low = omega (arith, g.low);
            counted = omega (arith, ap (λ (x : goal.Report). x.steps) e', same_steps, g.counted);
            shallow = omega (arith, g.shallow, ten, one, ap pending_in state, depth, g.depth_is);
            depth_is = depth;
            few = subst (Low (i + 6 + z)) (sym state) (low_stepped (asked b s) i (i + 6 + z) (open_under claim f ss) (step_with_child b i) (omega (arith, ten)) g.few);
            rest = ap (λ (st : State ℕ ℕ). need_from b (asked b s) st (report_is m') (k + 1) (i + 6 + z)) state ∙ onward;
          }

  -- ---- room for a split more

  pub roomy : {claim : Claim} {n : goal.Need} {ss : List (Waiting ℕ ℕ)} {r : code.Report} {f i k : ℕ} → Going claim n ss r f i k
      → i + 10 ≤ ticket_bytes
      → (f < 65536) × (length ss < deepest)
  roomy {claim} {n} {ss} {r} {f} {i} {k} g h = (
    omega (arith, open_low claim i f ss g.few),
    omega (arith, g.shallow),
  )
