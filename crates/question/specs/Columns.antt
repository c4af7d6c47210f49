-- The columns of a question with p string and q integer variables, for the code.
use Rattle.std.specs.Prelude.{ℕ}
use Rattle.calculus.specs.Facts.{blank, column_of}
use Rattle.format.specs.StepForms.{function_of}

-- that of function f (0 len, 1 code) of x
unfoldable pub column_at : ℕ → ℕ → ℕ → ℕ → ℕ
column_at p q f x = column_of (blank 0 p q) (function_of f) x
