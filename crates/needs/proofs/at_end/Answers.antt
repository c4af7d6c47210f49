use borrow.Author.Rules.{rules}
use mathlib.Core.Path.{◌∙◌, sym, ap}
use Rattle.std.proofs.lemmas.Result.{err_from_is_err_and}
use Rattle.question.specs.Posed.{asked}
use Rattle.needs.specs.Outcomes.{report_is}
use Rattle.faults.specs.Numbers.{fault_in}
use Rattle.needs.proofs.Refusals.{refused, passed}
use Rattle.needs.proofs.Ends.{end_met, end_refused}
use Rattle.needs.proofs.at_end.Goals as goal

pub returns-in_err-map_err : goal.returns-in_err-map_err
returns-in_err-map_err c =
    let a = c.args in
    let b = a.ticket.now in
    let p = err_from_is_err_and c.from_residual.result c.from_residual.ensures.1 in
    let (e, r) = refused _ c.end_fault.result c.map_err.result c.map_err.ensures.cases _ c.in_err-map_err.was a.r (λ x h. search rules) in
    λ s. rw (p.1, p.2, r) (sym (end_refused b (asked b s) (report_is a.report) a.r a.at _ (e ∙ c.end_fault.ensures)))

pub returns : goal.returns
returns c =
    let a = c.args in
    let b = a.ticket.now in
    λ s. sym (end_met b (asked b s) (report_is a.report) a.r a.at
    (sym c.end_fault.ensures ∙ ap fault_in (passed _ c.end_fault.result c.map_err.result c.map_err.ensures.cases _ c.in_ok-map_err.was)))
