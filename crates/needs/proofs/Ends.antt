-- What a ticket needs where its steps end: after the last closed branch, and at the model.
use Prim.Native.Nat.{ℕ, ◌+◌, ◌≤◌, max}
use native.Mathlib.Omega.{arith}
use native.Mathlib.Nat.{max-zero, max-eq_left}
use mathlib.Core.Path.{◌≡◌, refl, ◌∙◌, ap}
use mathlib.Core.Bool.{true, false, cond}
use mathlib.Core.List.{List, []}
use lib.ListN.{length}
use lib.Dec.{eqb}
use borrow.Author.Tests.{leb-true, eqb-true}
use Rattle.calculus.specs.Facts.{Question}
use Rattle.calculus.specs.Walk.{closed}
use Rattle.format.specs.Records.{size, kind, next, records}
use Rattle.format.specs.Reading.{State, proving, taking, model_fault, Done, steps_on}
use Rattle.format.specs.ProperForm.{by_shape, steps_at}
use Rattle.format.specs.Needs.{complete, states_met, facts_in, pending_in, Report, report, NeedRefused, Needs, need_by}
use Rattle.format.proofs.Faults.{none_applies}
use Rattle.format.proofs.StepTurns.{nonzero}
use Rattle.faults.specs.Numbers.{number}
use Rattle.faults.specs.declared.Fault.{Fault}
use Rattle.question.proofs.Refusals.{numbered}
use Rattle.delimiters.specs.Numbers.{end_fault}
use Rattle.delimiters.proofs.Ends.{closed_refused, closed_done}
use Rattle.delimiters.proofs.AtModel.{unsettled, unended, ended}
use Rattle.needs.specs.Outcomes.{joined, need_from}
use Rattle.needs.proofs.Reports.{report_same, from_refused, steps_by}

-- a state in which no split is pending, and whose facts were met
stays : (u : Question) (st : State ℕ ℕ) (m : Report) → facts_in (λ k. k) st ≤ m.facts → pending_in st ≡ 0 → joined m (report (λ k. k) (by_shape u) st []) ≡ m
unfolding states_met
stays u st m h e =
    let steps : m.steps + 0 ≡ m.steps = omega arith in
    let facts : max m.facts (max (facts_in (λ k. k) st) 0) ≡ m.facts = ap (max m.facts) (max-zero (facts_in (λ k. k) st)) ∙ max-eq_left h in
    let pending : max m.pending (max (pending_in st) 0) ≡ m.pending =
    ap (λ k. max m.pending (max k 0)) e ∙ ap (max m.pending) (max-zero 0) ∙ max-zero m.pending in
    report_same steps facts pending

-- ---- by what reading comes to

module _ (b : List ℕ) (u : Question) (st : State ℕ ℕ) (m : Report) (r at : ℕ) where
  need_met : {v : Question} {st' : State ℕ ℕ} {q : ℕ}
      → steps_on (by_shape u) b u st r at ≡ Done v st' q
      → complete st' ≡ true
      → steps_at b (records b at) ≡ []
      → facts_in (λ k. k) st ≤ m.facts
      → pending_in st ≡ 0
      → need_from b u st m r at ≡ Needs m
  unfolding need_from
  need_met {q = q} e done none h p =
      let whole : Report = joined m (report (λ k. k) (by_shape u) st (steps_at b (records b at))) in
      ap (need_by (λ _. whole)) e
      ∙ ap (λ x. cond x (Needs whole) (NeedRefused 11 q)) done
      ∙ ap (λ ts. Needs (joined m (report (λ k. k) (by_shape u) st ts))) none
      ∙ ap Needs (stays u st m h p)

-- ---- after the last closed branch

module _ (b : List ℕ) (u : Question) (m : Report) (r at : ℕ) where
  pub end_refused : (x : Fault) → number x ≡ end_fault b at → need_from b u (proving closed) m r at ≡ NeedRefused (number x) r
  end_refused x e = from_refused b u (proving closed) m r at (nonzero (closed_refused (by_shape u) b u r at) (number x) e (numbered x))

  pub end_met : end_fault b at ≡ 0 → need_from b u (proving closed) m r at ≡ Needs m
  unfolding end_fault
  end_met e =
      let (whole, e4) = none_applies 2 _ _ e in
      let h : next b at ≤ length b = leb-true _ _ whole in
      let ends : kind b at ≡ 8 = eqb-true (kind b at) 8 (none_applies 3 _ _ e4).0 in
      need_met b u (proving closed) m r at (closed_done (by_shape u) b u r at e) refl (steps_by b u at false (omega arith) (ap (λ k. eqb k 6) ends)) (omega arith) refl

-- ---- at the model, with a body of n bytes

module _ (b : List ℕ) (u : Question) (facts : ℕ) (m : Report) (r at n : ℕ) (en : n ≡ size b at) (k : kind b at ≡ 7) (h : next b at ≤ length b) where
  pub model_faulty : (x : Fault) → number x ≡ model_fault b u 0 (at + 6) n → need_from b u (taking facts) m r at ≡ NeedRefused (number x) r
  model_faulty x e = from_refused b u (taking facts) m r at (unsettled (by_shape u) b u facts r at n en k h (number x) e (numbered x))

  module _ (e : model_fault b u 0 (at + 6) n ≡ 0) where
    pub model_unended : (x : Fault) → number x ≡ end_fault b (at + 6 + n) → need_from b u (taking facts) m r at ≡ NeedRefused (number x) (r + 1)
    model_unended x f = from_refused b u (taking facts) m r at (unended (by_shape u) b u facts r at n en k h e (number x) f (numbered x))

    pub model_met : end_fault b (at + 6 + n) ≡ 0 → facts ≤ m.facts → need_from b u (taking facts) m r at ≡ Needs m
    model_met f l =
        need_met b u (taking facts) m r at (ended (by_shape u) b u facts r at n en k h e f) refl (steps_by b u at false (omega arith) (ap (λ k. eqb k 6) k)) l refl
