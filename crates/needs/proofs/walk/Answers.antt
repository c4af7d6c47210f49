use borrow.Enum.Refused.{opened}
use Prim.Native.Nat.{ℕ, ◌+◌, ◌≤◌}
use lib.ListN.{length}
use mathlib.Core.Path.{◌≡◌, refl, sym, ◌∙◌, ap, subst}
use borrow.Author.Rules.{rules}
use Rattle.std.proofs.lemmas.Result.{err_from_is_err_and}
use Rattle.faults.specs.Numbers.{number, fault_in}
use Rattle.question.proofs.Refusals.{numbered}
use Rattle.needs.proofs.Refusals.{refused, passed}
use mathlib.Core.Bool.{false}
use mathlib.Core.List.{List}
use native.Mathlib.Omega.{arith}
use native.Mathlib.Nat.{add_assoc}
use Rattle.calculus.specs.Limits.{ticket_bytes}
use Rattle.format.specs.Records.{kind, size}
use Rattle.format.specs.ProperForm.{by_shape}
use Rattle.format.specs.Reading.{fault}
use Rattle.format.specs.StepForms.{form_for, rule}
use Rattle.format.proofs.Decoded.{at_least}
use Rattle.steps.proofs.Table.{least_four}
use Rattle.records.specs.Found.{WholeRecord}
use Rattle.records.proofs.Finding.{found_whole, not_whole, all_there}
use Rattle.question.specs.Posed.{asked}
use Rattle.delimiters.specs.Claims.{open_under, ends_at}
use Rattle.delimiters.specs.Numbers.{open_fault}
use Rattle.steps.specs.Faults.{fault_under}
use Rattle.steps.proofs.Numbers.{form_refused, its_kind, its_form, its_field, its_trial}
use Rattle.needs.specs.Steps.{Fit}
use Rattle.needs.specs.Outcomes.{report_is, with_state, need_started}
use Rattle.needs.proofs.Walking.{starts, going_none, going_refused, going_model, going_closed, going_open, none_tried, roomy, Going}
use Rattle.needs.proofs.walk.Goals as goal
use Rattle.needs.proofs.walk.Goals.{After-with_state-report, At-loop-kind, Else-ends_steps, In_ok-map_err, In-Whole}

-- ---- places
abbrev Loop : Type 0
Loop = At-loop-kind

abbrev bytes : Loop → List ℕ
bytes l = l.args.ticket.now

-- ---- the start
pub loop-kind-init : goal.loop-kind-init
loop-kind-init c =
    let a = c.args in (
      subst (λ ss. Going a.ticket.now a.s a.claim (need_started a.claim a.ticket.now a.s a.r a.from) ss (record { steps = 0; facts = 0; pending = 0 })
          a.s.constraints a.from a.r) (sym c.new-pending.ensures) (starts a.ticket.now a.s a.claim a.from a.r c.requires),
      omega arith,
    )

-- the state is met
met : (c : After-with_state-report) →
    report_is c.with_state-report.result ≡ with_state (report_is c.loop-kind.report) c.loop-kind.facts (length c.loop-kind.pending)
met c = c.with_state-report.ensures ∙ ap (with_state (report_is c.loop-kind.report) c.loop-kind.facts) c.len.ensures

pub returns-in_default : goal.returns-in_default
returns-in_default c =
    let b = bytes (goal.at.returns-in_default c).At-loop-kind in
    going_none b c.args.s c.loop-kind.invariant.0 c.with_state-report.result (met (goal.at.returns-in_default c).After-with_state-report)
    (not_whole b c.loop-kind.at _ c.read_at.ensures (opened c.in_default.in_default-own.keys2)) c.at.result c.at.ensures

whole : (c : In-Whole) → WholeRecord (bytes (goal.at.In-Whole c).At-loop-kind) c.loop-kind.at c.in-Whole.kind c.in-Whole.size
whole c = found_whole (bytes (goal.at.In-Whole c).At-loop-kind) c.loop-kind.at _ _ (sym c.read_at.ensures ∙ c.in-Whole.is)

pub returns-then-ends_steps : goal.returns-then-ends_steps
returns-then-ends_steps c =
    let a = c.args in
    let r = whole (goal.at.returns-then-ends_steps c).In-Whole in
    going_model (bytes (goal.at.returns-then-ends_steps c).At-loop-kind) a.s c.loop-kind.invariant.0 c.with_state-report.result
    (met (goal.at.returns-then-ends_steps c).After-with_state-report) a.from a.r _ c.requires
    c.loop-kind.invariant.1
    (sym c.ends_steps.ensures ∙ c.if-ends_steps.true) r.0 (all_there (bytes (goal.at.returns-then-ends_steps c).At-loop-kind) c.loop-kind.at _ _ r)

pub record_fault-requires : goal.record_fault-requires
record_fault-requires c =
    let h = c.requires in
    (whole (goal.at.record_fault-requires c).In-Whole, h.few_strings, h.few_integers)

-- it does not end the steps
going_on : (c : Else-ends_steps) →
    ends_at c.args.claim c.in-Whole.kind ≡ false
going_on c = sym c.ends_steps.ensures ∙ c.if-ends_steps.false

pub returns-in_err-map_err : goal.returns-in_err-map_err
returns-in_err-map_err c =
    let b = bytes (goal.at.returns-in_err-map_err c).At-loop-kind in
    let a = c.args in
    let o = c.loop-kind in
    let r = whole (goal.at.returns-in_err-map_err c).In-Whole in
    let f = c.record_fault in
    let p = err_from_is_err_and c.from_residual.result c.from_residual.ensures.1 in
    let (e, k) = refused _ f.result c.map_err.result c.map_err.ensures.cases _ c.in_err-map_err.was o.record (λ x h. search rules) in
    let x = c.in_err-map_err.field-0.0.fault in
    rw (p.1, p.2) (going_refused b a.s o.invariant.0 c.with_state-report.result (met (goal.at.returns-in_err-map_err c).After-with_state-report) (all_there b o.at _ _ r) x
    (form_refused (by_shape (asked b a.s)) b a.s o.facts o.pending o.at a.claim
    _ _ r (going_on (goal.at.returns-in_err-map_err c).Else-ends_steps) (number x) (e ∙ f.ensures) (numbered x))
    _ (refl, k))

formed : (c : In_ok-map_err) →
    let a = c.args in
    let b = a.ticket.now in
    let i = c.loop-kind.at in
    let m = c.in-Whole.size in
    0 ≡ open_fault (length b) (i + 6 + m) c.in-Whole.kind m (fault_under a.claim b a.s (i + 6) m)
formed c = sym (ap fault_in (passed _ c.record_fault.result c.map_err.result c.map_err.ensures.cases _ c.in_ok-map_err.was)) ∙ c.record_fault.ensures

fit : (c : In_ok-map_err) →
    Fit c.args.claim (bytes (goal.at.In_ok-map_err c).At-loop-kind) c.args.s c.loop-kind.at c.in-Whole.size
fit c =
    let b = bytes (goal.at.In_ok-map_err c).At-loop-kind in
    let a = c.args in
    let o = c.loop-kind in
    let ss = o.pending in
    let on = going_on (goal.at.In_ok-map_err c).Else-ends_steps in
    record {
      formed = its_form (by_shape (asked b a.s)) b a.s o.facts ss o.at a.claim _ _ (whole (goal.at.In_ok-map_err c).In-Whole) on (formed c);
      sized = (whole (goal.at.In_ok-map_err c).In-Whole).1;
      field = its_field (by_shape (asked b a.s)) b a.s o.facts ss o.at a.claim _ _ (whole (goal.at.In_ok-map_err c).In-Whole) on (formed c);
    }

-- a step's body has four bytes at least
long : (c : In_ok-map_err) → 4 ≤ c.in-Whole.size
long c =
    let r = rule (bytes (goal.at.In_ok-map_err c).At-loop-kind) (c.loop-kind.at + 6) in
    omega (arith, at_least (form_for r) c.in-Whole.size (fit c).formed.fits, least_four r)

-- the record ends within the longest ticket
ends_within : (c : In_ok-map_err) → c.loop-kind.at + 6 + c.in-Whole.size ≤ ticket_bytes
ends_within c = omega (arith, (whole (goal.at.In_ok-map_err c).In-Whole).2, c.requires.short)

pub with_step-report-requires : goal.with_step-report-requires
with_step-report-requires c =
    let g = c.loop-kind.invariant.0 in
    omega (arith, ends_within c, g.low, g.counted, ap (λ x. x.steps) c.with_state-report.ensures)

pub take_step-entered-requires : goal.take_step-entered-requires
take_step-entered-requires c =
    let at = goal.at.take_step-entered-requires c in
    let (small, room) = roomy at.At-loop-kind.args.ticket.now c.args.s c.loop-kind.invariant.0 (omega (arith, ends_within at.In_ok-map_err, long at.In_ok-map_err)) in
    (fit at.In_ok-map_err, small, room)

-- none of its numbers applies
clean : (c : In_ok-map_err) →
    let b = bytes (goal.at.In_ok-map_err c).At-loop-kind in
    let a = c.args in
    let o = c.loop-kind in
    fault (by_shape (asked b a.s)) b (asked b a.s) (open_under a.claim o.facts o.pending) o.at ≡ 0
clean c =
    let b = bytes (goal.at.In_ok-map_err c).At-loop-kind in
    let a = c.args in
    let o = c.loop-kind in
    let ss = o.pending in
    sym (its_trial (by_shape (asked b a.s)) b a.s o.facts ss o.at a.claim _ _ (whole (goal.at.In_ok-map_err c).In-Whole)
    (going_on (goal.at.In_ok-map_err c).Else-ends_steps) (formed c))
    ∙ none_tried a.claim b a.s o.facts ss (o.at + 6) (size b o.at)

step : (c : In_ok-map_err) → kind (bytes (goal.at.In_ok-map_err c).At-loop-kind) c.loop-kind.at ≡ 6
step c =
    let b = bytes (goal.at.In_ok-map_err c).At-loop-kind in
    let a = c.args in
    let o = c.loop-kind in
    its_kind (by_shape (asked b a.s)) b a.s o.facts o.pending o.at a.claim
    _ _
    (whole (goal.at.In_ok-map_err c).In-Whole) (going_on (goal.at.In_ok-map_err c).Else-ends_steps) (formed c)

pub overflow_add-at-in-loop-kind : goal.overflow_add-at-in-loop-kind
overflow_add-at-in-loop-kind c = omega (arith, ends_within (goal.at.overflow_add-at-in-loop-kind c).In_ok-map_err)

pub overflow_add-record : goal.overflow_add-record
overflow_add-record c = omega (arith, c.loop-kind.invariant.0.low, ends_within (goal.at.overflow_add-record c).In_ok-map_err)

pub returns-in-None : goal.returns-in-None
returns-in-None c =
    let here = (goal.at.returns-in-None c).In_ok-map_err in
    let b = bytes (goal.at.returns-in-None c).At-loop-kind in
    rw (← add_assoc) (going_closed b c.args.s c.loop-kind.invariant.0 c.with_state-report.result (met (goal.at.returns-in-None c).After-with_state-report) _ (fit here)
    (all_there b c.loop-kind.at _ _ (whole (goal.at.returns-in-None c).In-Whole)) (step here)
    (clean here)
    c.with_step-report.result c.with_step-report.ensures _ _ c.take_step-entered.ensures c.in-None.is)

pub loop-kind-smaller : goal.loop-kind-smaller
loop-kind-smaller c =
    omega (arith, (whole (goal.at.loop-kind-smaller c).In-Whole).2)

pub loop-kind-preserved : goal.loop-kind-preserved
loop-kind-preserved c =
    let here = (goal.at.loop-kind-preserved c).In_ok-map_err in
    let b = bytes (goal.at.loop-kind-preserved c).At-loop-kind in (
      rw (← add_assoc) (going_open b c.args.s c.loop-kind.invariant.0 c.with_state-report.result (met (goal.at.loop-kind-preserved c).After-with_state-report) _ (fit here)
          (all_there b c.loop-kind.at _ _ (whole (goal.at.loop-kind-preserved c).In-Whole)) (step here)
          (clean here)
          c.with_step-report.result c.with_step-report.ensures _ _ _ c.take_step-entered.ensures c.in-Some.is),
      omega (arith, c.loop-kind.invariant.1),
    )
