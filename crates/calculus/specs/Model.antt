-- The model: "an i32 for each column". Its values at a leaf, "the branch at the model".
use Rattle.std.specs.Prelude.{ℕ, List, get_or, ℤ, pos}
use Rattle.calculus.specs.Facts.{Question, Function, column_of}

-- the model's value of f(x)
abbrev pub model_value : Question → List ℤ → Function → ℕ → ℤ
model_value u m f x = get_or m (column_of u f x) (pos 0)
