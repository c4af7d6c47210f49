-- Bodies that fit their rule's form.
use Rattle.std.specs.Prelude.{ℕ, ◌+◌, ◌≤◌, ◌≡◌, true, List, length}
use Rattle.calculus.specs.Facts.{Question, column_count}
use Rattle.format.specs.StepForms.{rule, length_fits, operands_in_range}

-- a step's body of m bytes at a position: it stands in the bytes, its length fits its rule, and its operands are in their ranges
pub record Formed (b : List ℕ) (u : Question) (body m : ℕ) : Type 0 where
  pub within : body + m ≤ length b
  pub fits : length_fits b body m ≡ true
  pub is_in_range : operands_in_range b u.p (column_count u) (rule b body) body m ≡ true
