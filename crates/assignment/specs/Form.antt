-- An answer by position: its first record out of range, and the columns' values.
use Rattle.std.specs.Prelude.{ℕ, List, ℤ, Option, Some, None}
use Rattle.std.proofs.Math.Option as math
use Rattle.std.proofs.Math.Option.{none, some}
use Rattle.calculus.specs.Facts.{blank}
use Rattle.calculus.specs.Meaning.{columns}
use Rattle.format.specs.Places.{skip}
use Rattle.format.specs.Answer.{assignment_of}
use Rattle.assignment.specs.declared.Outside.{Outside}

-- a record of the answer by its number and its position, if there is one
abbrev pub placed_in : List ℕ → math.Option ℕ → Option Outside
placed_in v none = None
placed_in v (some r) = Some record { number = r; at = skip v r 0 }

-- the columns' values of an answer with p strings and q integers
unfoldable pub columns_at : List ℕ → ℕ → ℕ → List ℤ
columns_at v p q = columns (assignment_of v (blank 0 p q))
