-- The column of a function of a variable.
use Prim.Native.Nat.{ℕ, zero, suc, ◌+◌}
use native.Mathlib.Omega.{arith}
use mathlib.Core.Path.{◌≡◌, refl}
use mathlib.Core.Logic.{◌≢◌}
use Rattle.calculus.specs.LinearForms.{column}
use Rattle.calculus.specs.Facts.{Question, apply}
use Rattle.format.specs.StepForms.{function_of}
use Rattle.question.specs.Columns.{column_at}

pub column_length : (p q f x : ℕ) → f ≡ 0 → q + x ≡ column_at p q f x
unfolding column_at
column_length p q f x e = rw e

pub column_code : (p q f x : ℕ) → (f ≡ 0 → ⊥) → q + (p + x) ≡ column_at p q f x
unfolding column_at
column_code p q zero x n = absurd (n refl)
column_code p q (suc f) x n = refl

-- it is the form that the calculus names
pub applied : (u : Question) (f x : ℕ) → apply u (function_of f) x ≡ column (column_at u.p u.q f x)
unfolding column_at
applied u zero x = refl
applied u (suc f) x = refl

-- different variables have different columns
pub columns_differ : (p q f x y : ℕ) → x ≢ y → column_at p q f x ≢ column_at p q f y
unfolding column_at
columns_differ p q zero x y n e = n (omega arith)
columns_differ p q (suc f) x y n e = n (omega arith)
