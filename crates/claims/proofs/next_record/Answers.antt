use Prim.Native.Nat.{ℕ, ◌+◌, ◌≤◌}
use borrow.Enum.Refused.{opened}
use lib.ListN.{length}
use mathlib.Core.Path.{◌≡◌, sym, ◌∙◌, ap}
use mathlib.Core.Bool.{false}
use mathlib.Core.List.{List}
use native.Mathlib.Omega.{arith}
use Rattle.format.specs.Records.{kind, size}
use Rattle.format.specs.StepForms.{rule_of, rule, form_for}
use Rattle.format.proofs.Decoded.{at_least}
use Rattle.std.proofs.lemmas.Result.{err_from_is_err_and}
use Rattle.records.proofs.Finding.{found_whole, not_whole, all_there}
use Rattle.steps.specs.Faults.{fault_under}
use Rattle.steps.proofs.Table.{least_four}
use Rattle.delimiters.specs.Claims.{ends_at}
use Rattle.delimiters.specs.Numbers.{open_fault}
use Rattle.claims.specs.Steps.{NextAt}
use Rattle.claims.proofs.Nexts.{none_there, refused_there, formed_there, step_there}
use Rattle.claims.proofs.next_record.Goals as goal
use Rattle.claims.proofs.next_record.Goals.{Else-ends_steps, In_ok-record_fault, In-Whole}

abbrev bytes : In-Whole → List ℕ
bytes c = c.args.ticket.now

pub returns-in_default : goal.returns-in_default
returns-in_default c =
    let a = c.args in
    let b = a.ticket.now in
    none_there b a.s a.«at» a.claim (not_whole b a.«at» _ c.read_at.ensures (opened c.in_default.in_default-own.keys2))

-- ---- a whole record
whole : (c : In-Whole) →
    let b = bytes c in
    let i = c.args.«at» in
    (c.in-Whole.kind ≡ kind b i) × (c.in-Whole.size ≡ size b i) × (i + 6 + c.in-Whole.size ≤ length b)
whole c = found_whole (bytes c) c.args.«at» _ _ (sym c.read_at.ensures ∙ c.in-Whole.is)

pub returns-then-ends_steps : goal.returns-then-ends_steps
unfolding NextAt
returns-then-ends_steps c =
    let a = c.args in
    let r = whole (goal.at.returns-then-ends_steps c).In-Whole in
    (ap (ends_at a.claim) (sym r.0) ∙ sym c.ends_steps.ensures ∙ c.if-ends_steps.true, all_there a.ticket.now a.«at» _ _ r)

pub record_fault-requires : goal.record_fault-requires
record_fault-requires c =
    let stands = c.requires.stands in
    (whole (goal.at.record_fault-requires c).In-Whole, stands.few_strings, stands.few_integers)

-- it does not end the steps
going_on : (c : Else-ends_steps) →
    ends_at c.args.claim c.in-Whole.kind ≡ false
going_on c = sym c.ends_steps.ensures ∙ c.if-ends_steps.false

pub returns-in_err-record_fault : goal.returns-in_err-record_fault
returns-in_err-record_fault c =
    let a = c.args in
    let p = err_from_is_err_and c.from_residual.result c.from_residual.ensures.1 in
    rw (p.1, p.2) (refused_there a.ticket.now a.s a.«at» a.claim _ _ (whole (goal.at.returns-in_err-record_fault c).In-Whole)
    (going_on (goal.at.returns-in_err-record_fault c).Else-ends_steps) _ c.in_err-record_fault.ensures)

-- ---- a step of proper form

passed : (c : In_ok-record_fault) →
    let a = c.args in
    let b = a.ticket.now in
    let m = c.in-Whole.size in
    0 ≡ open_fault (length b) (a.«at» + 6 + m) c.in-Whole.kind m (fault_under a.claim b a.s (a.«at» + 6) m)
passed c = c.in_ok-record_fault.ensures

pub overflow_add-at : goal.overflow_add-at
overflow_add-at c = omega (arith, (whole (goal.at.overflow_add-at c).In-Whole).2)

pub u16_at-requires : goal.u16_at-requires
u16_at-requires c =
    let a = c.args in
    let b = a.ticket.now in
    let f =
    formed_there b a.s a.«at» a.claim _ _ (whole (goal.at.u16_at-requires c).In-Whole) (going_on (goal.at.u16_at-requires c).Else-ends_steps) (passed (goal.at.u16_at-requires c).In_ok-record_fault) in
    omega (arith, f.within, at_least (form_for (rule b (a.«at» + 6))) _ f.fits, least_four (rule b (a.«at» + 6)))

pub returns : goal.returns
returns c =
    let a = c.args in
    step_there a.ticket.now a.s a.«at» a.claim _ _ (whole (goal.at.returns c).In-Whole) (going_on (goal.at.returns c).Else-ends_steps)
    (passed (goal.at.returns c).In_ok-record_fault) c.rule_of-rule.result
    (c.rule_of-rule.ensures ∙ ap rule_of c.u16_at.ensures.0)
