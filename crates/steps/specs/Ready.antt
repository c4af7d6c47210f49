-- A step that is ready to be taken on a branch.
use Rattle.std.specs.Prelude.{ℕ, ◌≡◌, List, ℤ}
use Rattle.format.specs.StepForms as format
use Rattle.rows.specs.Work.{Fine}
use Rattle.question.specs.declared.Progress.{Progress}
use Rattle.question.specs.Posed.{asked, Posed}
use Rattle.steps.specs.declared.Rule.{Rule}
use Rattle.steps.specs.declared.Conclusions.{Conclusions}
use Rattle.steps.specs.Rules.{rule_named}
use Rattle.steps.specs.Conclusions.{conclusions_of}
use Rattle.steps.specs.Forms.{Formed}

-- the question may be worked on, the step's body is of proper form, and the branch, the first count rows of the work area, is within its limits
pub record Ready (b : List ℕ) (s : Progress) (body size : ℕ) (w : List ℤ) (count : ℕ) : Type 0 where
  pub posed : Posed b s
  pub formed : Formed b (asked b s) body size
  pub fine : Fine w count

-- by a rule, under its name, that has so many conclusions
pub record ReadyBy (r : Rule) (c : Conclusions) (b : List ℕ) (s : Progress) (body size : ℕ) (w : List ℤ) (count : ℕ) : Type 0 where
  pub ready : Ready b s body size w count
  pub named : rule_named r ≡ format.rule b body
  pub concludes : conclusions_of (rule_named r) ≡ c
