use Prim.Native.Nat.{◌+◌}
use borrow.Author.Rules.{rules}
use mathlib.Core.Path.{◌≡◌, ◌∙◌, ap, refl, sym}
use native.Mathlib.Omega.{arith}
use Rattle.std.specs.Prelude.{Ok}
use Rattle.std.proofs.lemmas.Result.{err_from_is_err_and, IfOk-at_ok}
use Rattle.faults.specs.Numbers.{fault_in}
use Rattle.question.proofs.Refusals.{numbered}
use Rattle.claims.proofs.Located.{value_before, error_before}
use Rattle.model.specs.Settled.{Answers, model_of, fault_of}
use Rattle.deciding.proofs.Outcomes.{refused_at, strings}
use Rattle.delimiters.proofs.AtModel.{ended, unended, unsettled}
use Rattle.format.specs.Checking.{checker, outcome_of}
use Rattle.format.specs.Reading.{model_at}
use Rattle.question.proofs.Posed.{literals_whole}
use Rattle.question.specs.Posed.{asked}
use Rattle.rows.specs.Rows.{branch_of}
use Rattle.deciding.proofs.at_model.Goals as goal
use Rattle.deciding.proofs.at_model.Goals.{In_ok-labels}

pub record_places-places-requires : goal.record_places-places-requires
record_places-places-requires c =
    let posed = c.requires.0 in
    (omega (arith, posed.stands.few_literals), literals_whole posed)

pub settle-requires : goal.settle-requires
settle-requires c =
    let posed = c.requires.0 in (
      posed,
      search rules,
      search rules,
      record { placed = c.record_places-places.ensures; enough = omega (arith, posed.stands.few_literals) },
      refl,
    )

pub returns-in_err-labels : goal.returns-in_err-labels
returns-in_err-labels c =
    let a = c.args in
    let u32-at = c.u32_at-size in
    let b = a.ticket.now in
    let p = err_from_is_err_and c.from_residual.result c.from_residual.ensures.1 in
    let (f, q, h) = error_before _ c.settle.result c.map_err.ensures.cases c.in_err-labels.was in
    let at : (c.in_err-labels.field-0.0.fault ≡ f) × (c.in_err-labels.field-0.0.«record» ≡ a.r) = search rules in
    rw (p.1, p.2) (λ set. refused_at a.answer.now f at
    (ap outcome_of (unsettled (checker (asked b a.s)) b (asked b a.s) (branch_of a.work.now a.count) a.r a.at u32-at.result
    u32-at.ensures.0 c.requires.1 c.requires.2 _ (sym (ap fault_in q) ∙ c.settle.ensures.fault) (numbered f))))

-- the leaf is settled by its model
settled : (c : In_ok-labels) → c.settle.result ≡ Ok c.in_ok-labels.labels
settled c = value_before _ c.settle.result c.map_err.ensures.cases c.in_ok-labels.was

no_fault : (c : In_ok-labels) →
    let a = c.args in
    fault_of a.ticket.now a.s (branch_of a.work.now a.count) (a.at + 6) c.u32_at-size.result ≡ 0
no_fault c = sym c.settle.ensures.fault ∙ ap fault_in (settled c)

answers : (c : In_ok-labels) →
    let a = c.args in
    Answers a.ticket.now c.record_places-places.result a.s (branch_of a.work.now a.count) (model_of a.ticket.now a.s (a.at + 6)) c.in_ok-labels.labels c.settle.new.model
answers c = IfOk-at_ok _ (settled c) c.settle.ensures.settled

pub returns-in_err-map_err : goal.returns-in_err-map_err
returns-in_err-map_err c =
    let a = c.args in
    let u32-at = c.u32_at-size in
    let b = a.ticket.now in
    let p = err_from_is_err_and c.from_residual-in_err-map_err.result c.from_residual-in_err-map_err.ensures.1 in
    let (f, q, h) = error_before _ c.end_fault.result c.map_err-2.ensures.cases c.in_err-map_err.was in
    let at : (c.in_err-map_err.field-0.0.fault ≡ f) × (c.in_err-map_err.field-0.0.«record» ≡ a.r + 1) = search rules in
    rw (p.1, p.2) (λ set. refused_at a.answer.now f at
    (ap outcome_of (unended (checker (asked b a.s)) b (asked b a.s) (branch_of a.work.now a.count) a.r a.at u32-at.result
    u32-at.ensures.0 c.requires.1 c.requires.2 (no_fault (goal.at.returns-in_err-map_err c).In_ok-labels) _ (sym (ap fault_in q) ∙ c.end_fault.ensures) (numbered f))))

pub write-requires : goal.write-requires
write-requires c = ((answers (goal.at.write-requires c).In_ok-labels).writable, c.requires.5)

pub returns : goal.returns
returns c =
    let a = c.args in
    let here = (goal.at.returns c).In_ok-labels in
    let u32-at = c.u32_at-size in
    let b = a.ticket.now in
    let u = asked b a.s in
    let br = branch_of a.work.now a.count in
    let passed = value_before _ c.end_fault.result c.map_err-2.ensures.cases c.in_ok-map_err.was in
    λ set. strings a.answer.now _
    (ap outcome_of (ended (checker u) b u br a.r a.at u32-at.result u32-at.ensures.0 c.requires.1 c.requires.2
    (no_fault here) (sym c.end_fault.ensures ∙ ap fault_in passed)))
    (c.write.ensures br (model_at b u (a.at + 6)) (answers here))
