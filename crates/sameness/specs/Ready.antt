-- A question that was read, with the normal forms of its facts in rows.
use Rattle.std.specs.Prelude.{ℕ, ◌≤◌, ◌≡◌, List, map, length, ℤ}
use Rattle.calculus.specs.Limits.{work_numbers}
use Rattle.calculus.specs.Facts.{Fact, same, not_same, is_literal, arithmetic}
use Rattle.calculus.specs.Extended.{Constraint, basic, extended}
use Rattle.calculus.specs.NormalForms.{normal}
use Rattle.format.specs.Places.{skip, literals_from}
use Rattle.rows.specs.Rows.{branch_of}
use Rattle.question.specs.declared.Progress.{Progress}
use Rattle.question.specs.Posed.{asked, extended_asked, Posed}

-- the literal that a fact names, 0 where it names none
abbrev pub literal_named : Fact → ℕ
literal_named (same x y) = 0
literal_named (not_same x y) = 0
literal_named (is_literal x l) = l
literal_named (arithmetic r e) = 0

-- its text stands in the bytes
abbrev pub LiteralIn : List ℕ → Fact → Type 0
LiteralIn b f = skip b (literal_named f) literals_from ≤ length b

pub record Ready (b : List ℕ) (s : Progress) (w : List ℤ) : Type 0 where
  pub posed : Posed b s
  pub room : work_numbers ≤ length w
  pub rows : branch_of w s.constraints ≡ map normal (asked b s).constraints

-- the facts in the first rows, as constraints
abbrev pub facts_in : List ℤ → ℕ → List Constraint
facts_in w count = map basic (branch_of w count)

-- the extended constraints of a question
abbrev pub extended_in : List ℕ → Progress → List Constraint
extended_in b s = map extended (extended_asked b s)
