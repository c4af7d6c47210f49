use Prim.Native.Nat.{◌+◌}
use lib.Dec.{eqb}
use lib.ListN.{length}
use mathlib.Core.Path.{sym, ◌∙◌}
use Rattle.std.proofs.lemmas.Result.{err_from_is_err_and}
use Rattle.delimiters.proofs.Open.{open_form, open_step, at_step}
use Rattle.question.proofs.Refusals.{numbered}
use Rattle.steps.proofs.record_fault.Goals as goal

pub returns-in_err-open_fault : goal.returns-in_err-open_fault
returns-in_err-open_fault c =
    let a = c.args in
    let p = err_from_is_err_and c.from_residual.result c.from_residual.ensures.1 in
    rw (p.1, p.2) (open_form (eqb a.kind 8) (eqb a.kind 6) _ _ _ _ c.in_err-open_fault.ensures (λ z. absurd (numbered _ z)))

pub returns : goal.returns
returns c =
    let a = c.args in
    let to = a.at + 6 + a.size in
    c.step_fault.ensures
    ∙ sym (at_step (length a.b.now) to a.kind a.size _ (open_step (length a.b.now) to a.kind a.size 0 (sym c.in_ok-open_fault.ensures)))
