-- The numbers 5 and 6 of a step's body of m bytes at a position, 0 for neither.
use Rattle.std.specs.Prelude.{ℕ, Bool, true, List, eqb}
use Rattle.calculus.specs.Steps.{Step}
use Rattle.format.specs.StepForms.{child_field, step_at, child_in_range}
use Rattle.format.specs.Reading.{step_fault}
use Rattle.delimiters.specs.declared.Claim.{Claim}
use Rattle.delimiters.specs.declared.Claim.TheVariants.{NoSolution, Strings}
use Rattle.question.specs.declared.Progress.{Progress}
use Rattle.question.specs.Posed.{asked}

-- whatever the child field is
abbrev pub fault_but : List ℕ → Progress → ℕ → ℕ → ℕ
fault_but b s body m = step_fault b (asked b s) true 0 body m

-- a child field over n characters: "Under claim 1 the child field is 0", "Under claim 2 it is the child taken"
abbrev pub child_field_fits : Claim → ℕ → Step → ℕ → Bool
child_field_fits NoSolution n st k = eqb k 0
child_field_fits Strings n st k = child_in_range n st k

-- that of the body
abbrev pub field_fits : Claim → List ℕ → ℕ → ℕ → ℕ → Bool
field_fits claim b n body m = child_field_fits claim n (step_at b body m) (child_field b body)

abbrev pub fault_under : Claim → List ℕ → Progress → ℕ → ℕ → ℕ
fault_under claim b s body m = step_fault b (asked b s) (field_fits claim b s.n body m) 0 body m
