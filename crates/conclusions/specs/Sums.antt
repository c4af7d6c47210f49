-- Sum's body of m bytes at a position.
use Rattle.std.specs.Prelude.{ℕ, ◌+◌, ◌≤◌, ◌≡◌, true, List, length}
use Rattle.calculus.specs.Steps.{Step, Sum}
use Rattle.format.specs.Fields.{u32}
use Rattle.format.specs.StepForms.{sum, form_for, fits_form, sum_pairs, operands_in_range}

-- it stands in the bytes, and is of proper form
abbrev pub FormedSum : List ℕ → ℕ → ℕ → Type 0
FormedSum b body m = (body + m ≤ length b) × (fits_form (form_for sum) m ≡ true) × (operands_in_range b 0 0 sum body m ≡ true)

-- the step
abbrev pub sum_at : List ℕ → ℕ → ℕ → Step
sum_at b body m = Sum (u32 b (body + 4)) (sum_pairs b body m)
