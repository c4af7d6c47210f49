-- What the rules rest on of a question and of a branch: numbers, variables and literals in range, forms whole. It is part of what document 01 allows (4 to 6).
use Rattle.std.specs.Prelude.{suc, ◌<◌, ◌≤◌, ◌≡◌, List, length}
use Rattle.lists.specs.Lists.{All}
use Rattle.calculus.specs.Limits.{variable_limit, literal_limit, column_limit}
use Rattle.calculus.specs.Facts.{Question, Fact, same, not_same, is_literal, arithmetic}

-- there is a character, "u16 p string variables, u16 q integer variables (each 0 to 16)", "literal, 0 to 15 of them"; no rule rests on the greatest n
pub record HeadInRange (u : Question) : Type 0 where
  pub alphabet : 1 ≤ u.n
  pub strings : u.p ≤ variable_limit
  pub integers : u.q ≤ variable_limit
  pub literals : length u.literals ≤ literal_limit

-- variables and literals are the question's, forms have a constant and 48 coefficients
abbrev pub FactInRange : Question → Fact → Type 0
FactInRange u (same x y) = (x < u.p) × (y < u.p)
FactInRange u (not_same x y) = (x < u.p) × (y < u.p)
FactInRange u (is_literal x l) = (x < u.p) × (l ≤ length u.literals)
FactInRange u (arithmetic r e) = length e ≡ suc column_limit

abbrev pub FactsInRange : Question → List Fact → Type 0
FactsInRange u fs = All (FactInRange u) fs
