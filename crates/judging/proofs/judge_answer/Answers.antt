use mathlib.Core.Path.{refl, sym}
use native.Mathlib.Omega.{arith}
use Rattle.format.specs.Question.{judging_manner}
use Rattle.question.proofs.Posed.{question_posed}
use Rattle.judging.proofs.Outcomes.{headed, headless, stopped}
use Rattle.question.specs.Progress.{reading_of}
use Rattle.question.specs.Posed.{asked, extended_asked}
use Rattle.judging.proofs.judge_answer.Goals as goal

pub judge_behind-requires : goal.judge_behind-requires
unfolding reading_of
judge_behind-requires c =
    question_posed judging_manner refl c.args.question.now c.in-Ok.read.numbers _ _ (sym c.in-Ok.ensures) (omega arith)

pub returns-in-Err : goal.returns-in-Err
unfolding reading_of
returns-in-Err c = rw c.found.ensures (stopped c.args.question.now c.args.answer.now (sym c.in-Err.ensures))

pub returns-in-Ok : goal.returns-in-Ok
unfolding reading_of
returns-in-Ok c =
    rw c.found-in-Ok.ensures (headless c.args.question.now c.args.answer.now (sym c.in-Ok.ensures) (omega arith) c.at.ensures)

pub returns-in-Ok-2 : goal.returns-in-Ok-2
unfolding reading_of asked extended_asked
returns-in-Ok-2 c = headed c.args.question.now c.args.answer.now (sym c.in-Ok.ensures) (omega arith) c.judge_behind.ensures
