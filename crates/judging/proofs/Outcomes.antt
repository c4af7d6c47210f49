-- What judging finds, outcome by outcome.
use Prim.Native.Nat.{ℕ, ◌≤◌}
use mathlib.Core.Path.{◌≡◌, refl, sym, ◌∙◌, ap, ap₂, subst}
use mathlib.Core.Bool.{Bool, true, false}
use mathlib.Core.Option.{Option, none, some}
use mathlib.Core.List.{List}
use lib.ListN.{length}
use native.Mathlib.Omega.{arith}
use Rattle.calculus.specs.Facts.{Question}
use Rattle.calculus.specs.Extended.{Extended}
use Rattle.format.specs.Records.{next}
use Rattle.format.specs.Question.{Progress, Stopped, Ended, judging_manner, judged_question}
use Rattle.format.specs.Places.{skip}
use Rattle.format.specs.Answer.{answer_form, assignment_of, outside}
use Rattle.format.specs.Judging as format
use Rattle.format.specs.Judging.{Submission, Submitted, by_form, judge_answer, submission, of_answer, record_shown}
use Rattle.format.proofs.Refusals.{refusal_up_to}
use Rattle.format.proofs.Shown.{nothing_up_to}
use Rattle.question.proofs.Posed.{said_stopped, said_headless, said_headed}
use Rattle.std.specs.Prelude.{Err}
use Rattle.faults.specs.Numbers.{number}
use Rattle.faults.specs.declared.Fault.TheVariants.{OutOfPlace, AnswerForm, AnswerRange}
use Rattle.faults.specs.declared.Refusal.{Refusal}
use Rattle.judging.specs.declared.Side.TheVariants as side
use Rattle.judging.specs.declared.Finding.{Finding}
use Rattle.judging.specs.Judgements.{Finds}

-- ---- the answer

module _ (b v : List ℕ) (u : Question) (es : List Extended) where
  by : {t : Bool} {o : Option ℕ} {r : Finding}
      → answer_form v u.p u.q 0 ≡ t
      → outside v u u.p 0 0 ≡ o
      → Finds b v (by_form u es v t o) r
      → Finds b v (judge_answer u es v) r
  by {r = r} e f h = subst (λ (g : Submission). Finds b v g r) (sym (ap₂ (by_form u es v) e f)) h

  pub unformed : {f : Refusal}
      → answer_form v u.p u.q 0 ≡ false
      → (f.fault ≡ AnswerForm) × (f.record ≡ 0)
      → Finds b v (judge_answer u es v) (record { said = Err f; shown = record { side = side.Answer; from = 0; to = length v } })
  unformed e h = by e refl (record { says = ap₂ format.Refusal (ap number h.0) h.1; shows = refl })

  pub out_of_range : {f : Refusal} {r at to : ℕ}
      → answer_form v u.p u.q 0 ≡ true
      → outside v u u.p 0 0 ≡ some r
      → (f.fault ≡ AnswerRange) × (f.record ≡ r)
      → at ≡ skip v r 0
      → to ≡ next v at
      → Finds b v (judge_answer u es v) (record { said = Err f; shown = record { side = side.Answer; from = at; to = to } })
  out_of_range e o h here end =
      by e o (record { says = ap₂ format.Refusal (ap number h.0) h.1; shows = rw end (ap (record_shown of_answer v) here) })

  pub judged : {r : Finding}
      → answer_form v u.p u.q 0 ≡ true
      → outside v u u.p 0 0 ≡ none
      → Finds b v (Submitted u es (assignment_of v u)) r
      → Finds b v (judge_answer u es v) r
  judged e f h = by e f h

-- ---- the question

module _ (b v : List ℕ) where
  -- its refusals show nothing
  refused : (f : Refusal) → number f.fault ≤ 10
      → Finds b v (format.Rejected (number f.fault) f.record) (record { said = Err f; shown = record { side = side.Question; from = 0; to = 0 } })
  refused f h = record { says = refl; shows = sym (nothing_up_to v (number f.fault) f.record h) }

  told : {g : Submission} {o : Finding} → submission b v ≡ g → Finds b v g o → Finds b v (submission b v) o
  told {o = o} e h = subst (λ (g : Submission). Finds b v g o) (sym e) h

  pub stopped : {f : Refusal}
      → judged_question b ≡ Stopped (number f.fault) f.record
      → Finds b v (submission b v) (record { said = Err f; shown = record { side = side.Question; from = 0; to = 0 } })
  unfolding submission
  stopped {f} e = told (said_stopped format.Rejected (λ u es. judge_answer u es v) b e) (refused f (refusal_up_to judging_manner b e))

  pub headless : {f : Refusal} {s : Progress} {at r : ℕ}
      → judged_question b ≡ Ended s at r
      → s.last ≡ 0
      → (f.fault ≡ OutOfPlace) × (f.record ≡ r)
      → Finds b v (submission b v) (record { said = Err f; shown = record { side = side.Question; from = 0; to = 0 } })
  unfolding submission
  headless {f} e g h =
      told (said_headless format.Rejected (λ u es. judge_answer u es v) b e g ∙ ap₂ format.Rejected (ap number (sym h.0)) (sym h.1))
      (refused f (rw h.0 (omega arith)))

  pub headed : {s : Progress} {at r : ℕ} {o : Finding}
      → judged_question b ≡ Ended s at r
      → 1 ≤ s.last
      → Finds b v (judge_answer s.question s.extended v) o
      → Finds b v (submission b v) o
  unfolding submission
  headed e f h = told (said_headed format.Rejected (λ u es. judge_answer u es v) b e f) h
