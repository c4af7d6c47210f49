use borrow.Author.Rules.{rules}
use mathlib.Core.Path.{◌≡◌, ◌∙◌, ap, sym}
use Rattle.std.proofs.lemmas.Result.{err_from_is_err_and}
use Rattle.faults.specs.Numbers.{fault_in}
use Rattle.question.proofs.Refusals.{numbered}
use Rattle.claims.proofs.Located.{value_before, error_before}
use Rattle.deciding.proofs.Outcomes.{no_solution, refused_at}
use Rattle.format.proofs.StepTurns.{nonzero}
use Rattle.delimiters.proofs.Ends.{closed_done, closed_refused}
use Rattle.format.specs.Checking.{checker, outcome_of}
use Rattle.question.specs.Posed.{asked}
use Rattle.deciding.proofs.at_end.Goals as goal

pub returns-in_err-map_err : goal.returns-in_err-map_err
returns-in_err-map_err c =
    let a = c.args in
    let b = a.ticket.now in
    let p = err_from_is_err_and c.from_residual.result c.from_residual.ensures.1 in
    let (f, q, h) = error_before _ c.end_fault.result c.map_err.ensures.cases c.in_err-map_err.was in
    let at : (c.in_err-map_err.field-0.0.fault ≡ f) × (c.in_err-map_err.field-0.0.«record» ≡ a.r) = search rules in
    rw (p.1, p.2) (λ s answer set words. refused_at answer f at
    (ap outcome_of (nonzero (closed_refused (checker (asked b s)) b (asked b s) a.r a.at) _ (sym (ap fault_in q) ∙ c.end_fault.ensures) (numbered f))))

pub returns : goal.returns
returns c =
    let a = c.args in
    let b = a.ticket.now in
    let passed = value_before _ c.end_fault.result c.map_err.ensures.cases c.in_ok-map_err.was in
    λ s answer set words. no_solution set answer
    (ap outcome_of (closed_done (checker (asked b s)) b (asked b s) a.r a.at (sym c.end_fault.ensures ∙ ap fault_in passed))) words
