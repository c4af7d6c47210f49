use Prim.Native.Nat.{ℕ}
use mathlib.Core.Bool.{true}
use mathlib.Core.Path.{◌∙◌, ◌≡◌, ap, ap₂, sym}
use native.Mathlib.Omega.{arith}
use Rattle.format.specs.StepForms as format
use Rattle.format.specs.StepForms.{rule_of, form_for, rule, length_fits, step_of}
use Rattle.format.proofs.Decoded.{at_least}
use Rattle.question.specs.Posed.{asked}
use Rattle.steps.specs.Rules.{rule_named}
use Rattle.steps.specs.Faults.{child_field_fits, field_fits}
use Rattle.steps.proofs.Table.{least_four, fits_by}
use Rattle.steps.proofs.Faults.{out_of_form, formed, by_child}
use Rattle.std.proofs.lemmas.Result.{err_from_is_err_and}
use Rattle.question.proofs.Refusals.{numbered}
use Rattle.steps.proofs.step_fault.Goals as goal
use Rattle.steps.proofs.step_fault.Goals.{After-child_field_fits, After-rule_of-rule, In_ok-operands_fault}

-- 5 and 6 do not apply to the operands
fits : (c : In_ok-operands_fault)
    → length_fits c.args.b.now c.args.body c.args.size ≡ true
fits c =
    (formed c.args.b.now (asked c.args.b.now c.args.s) true c.args.body c.args.size c.requires.0
    c.in_ok-operands_fault.ensures).fits

-- the rule under its name
its-rule : (c : After-rule_of-rule) →
    let args = c.args in
    rule_named c.rule_of-rule.result ≡ rule args.b.now args.body
its-rule c = c.rule_of-rule.ensures ∙ ap rule_of c.u16_at.ensures.0

-- the child field fits the claim, or not
said : (c : After-child_field_fits) → let a = c.args in
    c.child_field_fits.result ≡ field_fits a.claim a.b.now a.s.n a.body a.size
said c =
    let a = c.args in
    let b = a.b.now in
    c.child_field_fits.ensures b a.body
    ∙ ap₂ (λ (r : format.Rule) (k : ℕ). child_field_fits a.claim a.s.n (step_of b r a.body a.size) k) (its-rule (goal.at.After-child_field_fits c).After-rule_of-rule)
    c.u16_at-k.ensures.0

pub returns-in_err-operands_fault : goal.returns-in_err-operands_fault
returns-in_err-operands_fault c =
    let p = err_from_is_err_and c.from_residual.result c.from_residual.ensures.1 in
    rw (p.1, p.2) (out_of_form c.args.b.now (asked c.args.b.now c.args.s) _ c.args.body c.args.size _ c.in_err-operands_fault.ensures (numbered _))

pub u16_at-requires : goal.u16_at-requires
u16_at-requires c =
    let r = rule c.args.b.now c.args.body in
    omega (arith, at_least (form_for r) c.args.size (fits c), least_four r, c.requires.0)

pub u16_at-k-requires : goal.u16_at-k-requires
u16_at-k-requires c =
    let r = rule c.args.b.now c.args.body in
    omega (arith, at_least (form_for r) c.args.size (fits (goal.at.u16_at-k-requires c).In_ok-operands_fault), least_four r, c.requires.0)

pub child_field_fits-requires : goal.child_field_fits-requires
child_field_fits-requires c =
    fits_by c.args.b.now c.args.body c.args.size _ (its-rule (goal.at.child_field_fits-requires c).After-rule_of-rule) (fits (goal.at.child_field_fits-requires c).In_ok-operands_fault)

pub returns-then-not-child_field_fits : goal.returns-then-not-child_field_fits
returns-then-not-child_field_fits c =
    by_child c.args.b.now (asked c.args.b.now c.args.s) _ c.args.body c.args.size _ c.in_ok-operands_fault.ensures
    (sym (said (goal.at.returns-then-not-child_field_fits c).After-child_field_fits) ∙ c.if-not-child_field_fits.true)

pub returns : goal.returns
returns c =
    by_child c.args.b.now (asked c.args.b.now c.args.s) _ c.args.body c.args.size _ c.in_ok-operands_fault.ensures
    (sym (said (goal.at.returns c).After-child_field_fits) ∙ c.if-not-child_field_fits.false)
