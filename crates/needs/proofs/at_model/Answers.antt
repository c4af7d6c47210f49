use borrow.Author.Rules.{rules}
use Prim.Native.Nat.{◌+◌}
use mathlib.Core.Path.{◌≡◌, ◌∙◌, sym, ap}
use Rattle.std.proofs.lemmas.Result.{err_from_is_err_and}
use Rattle.format.specs.Reading.{model_fault}
use Rattle.question.specs.Posed.{asked}
use Rattle.needs.specs.Outcomes.{report_is}
use Rattle.faults.specs.Numbers.{fault_in}
use Rattle.needs.proofs.Refusals.{refused, passed}
use Rattle.needs.proofs.Ends.{model_met, model_faulty, model_unended}
use Rattle.needs.proofs.at_model.Goals as goal
use Rattle.needs.proofs.at_model.Goals.{In_ok-map_err}

pub returns-in_err-map_err : goal.returns-in_err-map_err
returns-in_err-map_err c =
    let f = c.model_fault in
    let size = c.u32_at-size in
    let a = c.args in
    let b = a.ticket.now in
    let p = err_from_is_err_and c.from_residual.result c.from_residual.ensures.1 in
    let (e, r) = refused _ f.result c.map_err.result c.map_err.ensures.cases _ c.in_err-map_err.was a.r (λ x h. search rules) in
    λ facts l. rw (p.1, p.2, r) (sym
    (model_faulty b (asked b a.s) facts (report_is a.report) a.r a.at size.result size.ensures.0 c.requires.model c.requires.whole _
    (e ∙ f.ensures)))

-- the model is of its form
formed : (c : In_ok-map_err) → model_fault c.args.ticket.now (asked c.args.ticket.now c.args.s) 0 (c.args.at + 6) c.u32_at-size.result ≡ 0
formed c = sym c.model_fault.ensures ∙ ap fault_in (passed _ c.model_fault.result c.map_err.result c.map_err.ensures.cases _ c.in_ok-map_err.was)

pub returns-in_err-map_err-2 : goal.returns-in_err-map_err-2
returns-in_err-map_err-2 c =
    let end = c.end_fault in
    let size = c.u32_at-size in
    let a = c.args in
    let b = a.ticket.now in
    let p = err_from_is_err_and c.from_residual-in_err-map_err-2.result c.from_residual-in_err-map_err-2.ensures.1 in
    let (e, r) = refused _ end.result c.map_err-2.result c.map_err-2.ensures.cases _ c.in_err-map_err-2.was (a.r + 1) (λ x h. search rules) in
    λ facts l. rw (p.1, p.2, r) (sym
    (model_unended b (asked b a.s) facts (report_is a.report) a.r a.at size.result size.ensures.0 c.requires.model c.requires.whole
    (formed (goal.at.returns-in_err-map_err-2 c).In_ok-map_err) _ (e ∙ end.ensures)))

pub returns : goal.returns
returns c =
    let size = c.u32_at-size in
    let a = c.args in
    let b = a.ticket.now in
    λ facts l. sym
    (model_met b (asked b a.s) facts (report_is a.report) a.r a.at size.result size.ensures.0 c.requires.model c.requires.whole
    (formed (goal.at.returns c).In_ok-map_err)
    (sym c.end_fault.ensures ∙ ap fault_in (passed _ c.end_fault.result c.map_err-2.result c.map_err-2.ensures.cases _ c.in_ok-map_err-2.was)) l)
