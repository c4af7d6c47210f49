-- The children for which a split asks for room.
use Rattle.std.specs.Prelude.{ℕ, ◌≡◌, true, List, map, length}
use Rattle.calculus.specs.Facts.{Fact}
use Rattle.calculus.specs.Steps.{shape}
use Rattle.format.specs.StepForms as format
use Rattle.format.specs.StepForms.{length_fits, step_at}
use Rattle.steps.specs.declared.Rule.{Rule}
use Rattle.steps.specs.Rules.{rule_named}

-- they add as many facts as the children of a step of the rule, over some number of characters, with some body that fits
pub record ChildrenBy (r : Rule) (cs : List (List Fact)) : Type 0 where
  pub n : ℕ
  pub b : List ℕ
  pub body : ℕ
  pub m : ℕ
  pub named : rule_named r ≡ format.rule b body
  pub fits : length_fits b body m ≡ true
  pub shaped : map length cs ≡ shape n (step_at b body m)
