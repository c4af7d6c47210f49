use mathlib.Core.Path.{◌∙◌, ap, sym}
use Rattle.std.proofs.lemmas.Result.{err_from_is_err_and}
use Rattle.deciding.proofs.Outcomes.{decided_by, refused}
use Rattle.deciding.proofs.Posing.{read_to}
use Rattle.format.specs.Checking.{checker, outcome_of}
use Rattle.format.specs.Reading.{read_behind}
use Rattle.question.specs.Progress.{reading_of}
use Rattle.deciding.proofs.decide.Goals as goal

pub behind_question-requires : goal.behind_question-requires
unfolding reading_of
behind_question-requires c =
    let b = c.args.ticket.now in
    record {
      read_to_claim = read_to b _ _ _ (sym c.read_question.ensures ∙ ap (reading_of b) c.in_ok-read_question.was);
      work_numbers_in_bounds = c.requires;
    }

pub returns-in_err-read_question : goal.returns-in_err-read_question
unfolding reading_of
returns-in_err-read_question c =
    let b = c.args.ticket.now in
    let p = err_from_is_err_and c.from_residual.result c.from_residual.ensures.1 in
    rw (p.1, p.2) (refused c.args.answer.now
    (ap (λ g. outcome_of (read_behind checker b g)) (sym c.read_question.ensures ∙ ap (reading_of b) c.in_err-read_question.was)))

pub returns : goal.returns
unfolding reading_of
returns c =
    let b = c.args.ticket.now in
    decided_by (ap (λ g. outcome_of (read_behind checker b g)) (sym c.read_question.ensures ∙ ap (reading_of b) c.in_ok-read_question.was))
    c.behind_question.ensures
