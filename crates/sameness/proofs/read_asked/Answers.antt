use mathlib.Core.Path.{refl, sym}
use native.Mathlib.Omega.{arith}
use Rattle.format.specs.Question.{judging_manner}
use Rattle.question.proofs.Posed.{question_posed, said_headed, said_headless, said_stopped}
use Rattle.question.specs.Posed.{asked, extended_asked}
use Rattle.question.specs.Progress.{reading_of}
use Rattle.std.proofs.lemmas.Result.{err_from_is_err_and}
use Rattle.sameness.proofs.read_asked.Goals as goal

pub returns-in_err-read : goal.returns-in_err-read
unfolding reading_of
returns-in_err-read c =
    let p = err_from_is_err_and c.from_residual.result c.from_residual.ensures.1 in
    rw (p.1, p.2) (λ refuse compare. said_stopped refuse compare c.args.b.now (sym c.in_err-read.ensures))

pub returns-then-read-lt-HEAD_RANK : goal.returns-then-read-lt-HEAD_RANK
unfolding reading_of
returns-then-read-lt-HEAD_RANK c =
    λ refuse compare.
    rw (c.at.ensures.0, c.at.ensures.1) (said_headless refuse compare c.args.b.now (sym c.in_ok-read.ensures) (omega arith))

pub returns : goal.returns
unfolding reading_of asked extended_asked
returns c =
    let b = c.args.b.now in
    let ended = sym c.in_ok-read.ensures in (
      question_posed judging_manner refl b c.in_ok-read.read.numbers _ _ ended (omega arith),
      λ refuse compare. said_headed refuse compare b ended (omega arith),
    )
