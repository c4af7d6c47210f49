use Prim.Native.Nat.{◌+◌}
use borrow.Author.Tests.{not-false, not-true}
use mathlib.Core.Bool.{true}
use mathlib.Core.Path.{◌∙◌, ◌≡◌, ap, sym}
use native.Mathlib.Omega.{arith}
use Rattle.format.specs.StepForms as format
use Rattle.format.specs.StepForms.{rule_of, form_for, rule, length_fits, operands_in_range}
use Rattle.format.proofs.Decoded.{at_least}
use Rattle.question.specs.Posed.{asked}
use Rattle.steps.specs.Rules.{rule_named}
use Rattle.steps.proofs.Table.{least_four, fits_by}
use Rattle.steps.proofs.Faults.{by_operands, ill_formed}
use Rattle.steps.proofs.operands_fault.Goals as goal
use Rattle.steps.proofs.operands_fault.Goals.{After-operands_in_range, After-rule_of-rule, Else-not-length_fits}

-- the length fits
fits : (c : Else-not-length_fits)
    → length_fits c.args.b.now c.args.body c.args.size ≡ true
fits c = sym c.length_fits.ensures ∙ not-false _ c.if-not-length_fits.false-raw

-- the rule under its name
its-rule : (c : After-rule_of-rule) →
    let args = c.args in
    rule_named c.rule_of-rule.result ≡ rule args.b.now args.body
its-rule c = c.rule_of-rule.ensures ∙ ap rule_of c.u16_at.ensures.0

-- the operands are in their ranges, or not
said : (c : After-operands_in_range) → let a = c.args in
    c.operands_in_range.result ≡ operands_in_range a.b.now a.s.p (a.s.q + (a.s.p + a.s.p)) (rule a.b.now a.body) a.body a.size
said c =
    let a = c.args in
    c.operands_in_range.ensures
    ∙ ap (λ (r : format.Rule). operands_in_range a.b.now a.s.p (a.s.q + (a.s.p + a.s.p)) r a.body a.size)
    (its-rule (goal.at.After-operands_in_range c).After-rule_of-rule)

pub returns-then-not-length_fits : goal.returns-then-not-length_fits
returns-then-not-length_fits c =
    ill_formed c.args.b.now (asked c.args.b.now c.args.s) true c.args.body c.args.size
    (sym c.length_fits.ensures ∙ not-true _ c.if-not-length_fits.true-raw)

pub u16_at-requires : goal.u16_at-requires
u16_at-requires c =
    let r = rule c.args.b.now c.args.body in
    omega (arith, at_least (form_for r) c.args.size (fits c), least_four r, c.requires.0)

pub operands_in_range-requires : goal.operands_in_range-requires
operands_in_range-requires c = (
  c.requires.0,
  fits_by c.args.b.now c.args.body c.args.size _ (its-rule (goal.at.operands_in_range-requires c).After-rule_of-rule)
      (fits (goal.at.operands_in_range-requires c).Else-not-length_fits),
)

pub returns-then-not-operands_in_range : goal.returns-then-not-operands_in_range
unfolding asked
returns-then-not-operands_in_range c =
    by_operands c.args.b.now (asked c.args.b.now c.args.s) true c.args.body c.args.size _ (fits (goal.at.returns-then-not-operands_in_range c).Else-not-length_fits)
    (sym (said (goal.at.returns-then-not-operands_in_range c).After-operands_in_range) ∙ c.if-not-operands_in_range.true)

pub returns : goal.returns
unfolding asked
returns c =
    by_operands c.args.b.now (asked c.args.b.now c.args.s) true c.args.body c.args.size _ (fits (goal.at.returns c).Else-not-length_fits)
    (sym (said (goal.at.returns c).After-operands_in_range) ∙ c.if-not-operands_in_range.false)
