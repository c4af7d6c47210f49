use mathlib.Core.Path.{sym, ◌∙◌, ap}
use Rattle.delimiters.specs.declared.Claim.{Claim}
use Rattle.format.specs.StepForms.{step_of}
use Rattle.steps.specs.Rules.{rule_named}
use Rattle.steps.specs.Faults.{child_field_fits}
use Rattle.steps.proofs.child_field_fits.Goals as goal

pub returns-in-NoSolution : goal.returns-in-NoSolution
returns-in-NoSolution c =
    let a = c.args in
    λ b body. ap (λ (x : Claim). child_field_fits x a.n (step_of b (rule_named a.rule) body a.size) a.k) (sym c.in-NoSolution.is)

pub returns-in-Strings : goal.returns-in-Strings
returns-in-Strings c =
    let a = c.args in
    λ b body. c.child_in_range.ensures b body
    ∙ ap (λ (x : Claim). child_field_fits x a.n (step_of b (rule_named a.rule) body a.size) a.k) (sym c.in-Strings.is)
