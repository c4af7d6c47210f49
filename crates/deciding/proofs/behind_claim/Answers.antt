use mathlib.Core.Path.{◌∙◌, ap, subst, sym}
use Rattle.std.specs.Prelude.{Ok}
use Rattle.std.proofs.lemmas.Result.{err_from_is_err_and, IfOk-at_ok}
use Rattle.deciding.proofs.Outcomes.{decided_by, refused}
use Rattle.calculus.specs.Cores.{core_in}
use Rattle.claims.specs.Outcomes.{walked_of, LeafAt, CoreAt, steps_from}
use Rattle.question.specs.Posed.{asked}
use Rattle.deciding.proofs.behind_claim.Goals as goal

pub at_model-requires : goal.at_model-requires
unfolding LeafAt
at_model-requires c =
    let leaf = subst (LeafAt c.args.ticket.now _) c.in-Model.is (IfOk-at_ok _ c.in_ok-to.was c.walk.ensures.leaf) in
    (c.requires.0.0, leaf.model, leaf.whole, leaf.low, leaf.fine, c.requires.2)

pub returns-in_err-to : goal.returns-in_err-to
unfolding walked_of
returns-in_err-to c =
    let s = c.args in
    let b = s.ticket.now in
    let p = err_from_is_err_and c.from_residual.result c.from_residual.ensures.1 in
    rw (p.1, p.2) (refused s.answer.now (sym c.walk.ensures.walked ∙ ap (walked_of b s.s _) c.in_err-to.was))

pub returns-in-Closed : goal.returns-in-Closed
unfolding walked_of CoreAt
returns-in-Closed c =
    let s = c.args in
    let b = s.ticket.now in
    let closed = c.in-Closed.is in
    let words = subst (CoreAt b s.s s.at) closed (IfOk-at_ok _ c.in_ok-to.was c.walk.ensures.core) in
    decided_by (sym c.walk.ensures.walked ∙ ap (walked_of b s.s _) (c.in_ok-to.was ∙ ap Ok closed))
    (c.at_end.ensures s.s s.answer.now (core_in (asked b s.s) (steps_from b s.at)) words)

pub returns-in-Model : goal.returns-in-Model
unfolding walked_of
returns-in-Model c =
    let s = c.args in
    let b = s.ticket.now in
    decided_by (sym c.walk.ensures.walked ∙ ap (walked_of b s.s _) (c.in_ok-to.was ∙ ap Ok c.in-Model.is)) (c.at_model.ensures _)
