use Prim.Native.Nat.{ℕ}
use lib.IntN.{ℤ, pos}
use lib.ListN.{replicate}
use mathlib.Core.Path.{◌∙◌, ap}
use native.Mathlib.Omega.{arith}
use Rattle.checking.proofs.Promises.{decided, small_answer, small_work}
use Rattle.checking.proofs.check_ticket.Goals as goal
use Rattle.checking.proofs.check_ticket.Goals.{then-work-lt-WORK_NUMBERS-via-then-work-lt-WORK_NUMBERS, then-work-lt-WORK_NUMBERS-via-else-work-lt-WORK_NUMBERS+then-answer-lt-ANSWER_BYTES}

pub returns-then-work-lt-WORK_NUMBERS : goal.returns-then-work-lt-WORK_NUMBERS
returns-then-work-lt-WORK_NUMBERS c =
    let s = c.args in
    elim c.then-work-lt-WORK_NUMBERS.branch [
      | then-work-lt-WORK_NUMBERS-via-then-work-lt-WORK_NUMBERS w ↦ small_work s.ticket.now s.work.now s.answer.now c.at.result c.at.ensures w.if-work-lt-WORK_NUMBERS.true
      | then-work-lt-WORK_NUMBERS-via-else-work-lt-WORK_NUMBERS+then-answer-lt-ANSWER_BYTES w ↦ small_answer s.ticket.now s.work.now s.answer.now c.at.result c.at.ensures
          w.if-work-lt-WORK_NUMBERS.false w.if-answer-lt-ANSWER_BYTES.true
    ]

pub decide-verdict-requires : goal.decide-verdict-requires
decide-verdict-requires c = (omega arith, omega arith)

pub returns : goal.returns
returns c =
    let s = c.args in
    decided s.ticket.now s.work.now s.answer.now c.if-work-lt-WORK_NUMBERS.false c.if-answer-lt-ANSWER_BYTES.false
    (c.fill.ensures.after (λ (y : ℤ) e. e) ∙ ap (λ (n : ℕ). replicate n (pos 0)) c.decide-verdict.auto.work) c.decide-verdict.ensures
