-- What a ticket needs by its question and its claim: it is refused, or the walk begins.
use Prim.Native.Nat.{ℕ, ◌+◌}
use native.Mathlib.Omega.{arith}
use native.Mathlib.Nat.{zero-max}
use mathlib.Core.Path.{◌≡◌, refl, sym, ◌∙◌, ap, ap₂}
use mathlib.Core.Bool.{cond}
use mathlib.Core.List.{List, []}
use lib.ListN.{length}
use Rattle.calculus.specs.Facts.{Question}
use Rattle.format.specs.Records.{next, records}
use Rattle.format.specs.Question as format
use Rattle.format.specs.Question.{question_form}
use Rattle.format.specs.Reading.{State, Ticket, Faulty, Done, claim_at, claim_fault, begin, read_behind, steps_on}
use Rattle.format.specs.ProperForm.{by_shape, steps_at, steps_behind, claim_behind}
use Rattle.format.specs.Needs.{Report, report, complete, Need, NeedRefused, Needs, need_by, needed}
use Rattle.format.proofs.Behind.{done→}
use Rattle.format.proofs.StepTurns.{nonzero, claim_faulty}
use Rattle.faults.specs.Numbers.{number}
use Rattle.faults.specs.declared.Fault.{Fault}
use Rattle.question.proofs.Refusals.{numbered}
use Rattle.question.specs.declared.Progress.{Progress}
use Rattle.question.specs.Progress.{progress_of}
use Rattle.question.specs.Posed.{asked}
use Rattle.delimiters.specs.declared.Claim.{Claim}
use Rattle.delimiters.specs.Claims.{claim_of, open_under}
use Rattle.delimiters.proofs.Claiming.{claim_ends, opens, claims_so}
use Rattle.needs.specs.Outcomes.{joined, nothing_met, need_from, need_started, need_claimed}
use Rattle.needs.proofs.Reports.{report_same}

-- ---- the question

-- by what reading of the question comes to
abbrev need_after : List ℕ → format.Reading → Need
need_after b g =
    need_by (λ v. report (λ k. k) (by_shape v) (begin (by_shape v) (claim_behind b g)) (steps_behind b g)) (read_behind by_shape b g)

pub read_refused : (b : List ℕ) {c r : ℕ} → question_form b ≡ format.Stopped c r → needed b ≡ NeedRefused c r
unfolding needed
read_refused b e = ap (need_after b) e

pub read_claimed : (b : List ℕ) (s : Progress) (at r : ℕ) → question_form b ≡ format.Ended (progress_of b s) at r → needed b ≡ need_claimed b s at r
unfolding needed
read_claimed b s at r e = ap (need_after b) e

-- ---- the claim

-- the question that reading ends with is the one that it began with
for_one : (f : Question → Report) (u : Question) (t : Ticket ℕ ℕ) → ((v : Question) (st : State ℕ ℕ) (q : ℕ) → t ≡ Done v st q → u ≡ v) → need_by f t ≡ need_by (λ _. f u) t
for_one f u (Faulty c r) same = refl
for_one f u (Done v st q) same = ap (λ x. cond (complete st) (Needs (f x)) (NeedRefused 11 q)) (sym (same v st q refl))

joined_nothing : (m : Report) → m ≡ joined nothing_met m
joined_nothing m = report_same (omega arith) (sym (zero-max m.facts)) (sym (zero-max m.pending))

module _ (b : List ℕ) (s : Progress) (at r : ℕ) where
  abbrev reported : Question → Report
  reported v = report (λ k. k) (by_shape v) (begin (by_shape v) (claim_at b at)) (steps_at b (records b (next b at)))

  pub claim_refused : (x : Fault) → number x ≡ claim_fault b (progress_of b s) at → need_claimed b s at r ≡ NeedRefused (number x) r
  claim_refused x e = ap (need_by reported) (nonzero (claim_faulty by_shape b (progress_of b s) at r) (number x) e (numbered x))

  pub claim_started : claim_fault b (progress_of b s) at ≡ 0
      → (claim : Claim)
      → claim ≡ claim_of (claim_at b at)
      → need_claimed b s at r ≡ need_started claim b s (r + 1) (at + 8)
  unfolding need_from
  claim_started e claim f =
      let u : Question = asked b s in
      let opened : Claim → State ℕ ℕ = λ claim. open_under claim (length u.constraints) [] in
      let rest : Ticket ℕ ℕ = steps_on (by_shape u) b u (opened claim) (r + 1) (at + 8) in
      let begun : begin (by_shape u) (claim_at b at) ≡ opened claim = opens by_shape b s (claim_at b at) ∙ ap opened (sym f) in
      let left : steps_at b (records b (next b at)) ≡ steps_at b (records b (at + 8)) = ap (λ i. steps_at b (records b i)) (claim_ends b (progress_of b s) at e) in
      ap (need_by reported) (claims_so by_shape b s at r e claim f)
      ∙ for_one reported u rest (λ v st q d. (done→ (by_shape u) b u (opened claim) (r + 1) (records b (at + 8)) d).same_question)
      ∙ ap (λ x. need_by (λ _. x) rest) (ap₂ (report (λ k. k) (by_shape u)) begun left ∙ joined_nothing _)
