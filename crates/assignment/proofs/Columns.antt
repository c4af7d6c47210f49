-- The columns' values of an answer, by position.
use Prim.Native.Nat.{ℕ, ◌+◌, ◌*◌, ◌/◌, ◌<◌}
use mathlib.Core.Path.{◌≡◌, ◌∙◌, ap}
use mathlib.Core.List.{List}
use lib.ListN.{length, get_or}
use lib.IntN.{pos}
use Rattle.calculus.specs.Facts.{Question, Function, len, code, value_of, code_of, blank, column_of}
use Rattle.calculus.specs.Meaning.{Assignment}
use Rattle.calculus.proofs.Columns as columns
use Rattle.format.specs.Fields.{i32, i32s}
use Rattle.format.specs.Records.{size}
use Rattle.format.specs.Places.{skip, text_at}
use Rattle.format.specs.Answer.{assignment_of}
use Rattle.format.proofs.Fields.{length_u32s, length_i32s, field_at}
use Rattle.format.proofs.Places.{length_texts, text_at_law}
use Rattle.assignment.specs.Form.{columns_at}

module _ (v : List ℕ) (p q : ℕ) where
  abbrev u : Question
  u = blank 0 p q

  abbrev values : Assignment
  values = assignment_of v u

  strings : length values.strs ≡ p
  strings = length_texts v p 0

  integers : length values.ints ≡ q
  integers = length_i32s v (skip v p 0 + 6) q

  pub length_columns : length (columns_at v p q) ≡ q + (p + p)
  unfolding columns_at
  length_columns = columns.length_columns u values strings integers

  pub integer_column : (j : ℕ) → j < q → get_or (columns_at v p q) j (pos 0) ≡ i32 v (skip v p 0 + 6 + 4 * j)
  unfolding columns_at i32s
  integer_column j h = columns.integer_value u values strings integers j h ∙ field_at 4 (i32 v) (skip v p 0 + 6) q j (pos 0) h

  of_text : (f : Function) (x : ℕ) → x < p → get_or (columns_at v p q) (column_of u f x) (pos 0) ≡ value_of f (text_at v (skip v x 0))
  unfolding columns_at
  of_text f x h = columns.column_value u values strings integers f x h ∙ ap (value_of f) (text_at_law v x p 0 h)

  pub len_column : (x : ℕ) → x < p → get_or (columns_at v p q) (q + x) (pos 0) ≡ pos (size v (skip v x 0) / 4)
  len_column x h = of_text len x h ∙ ap pos (length_u32s v (skip v x 0 + 6) (size v (skip v x 0) / 4))

  pub code_column : (x : ℕ) → x < p → get_or (columns_at v p q) (q + (p + x)) (pos 0) ≡ code_of (text_at v (skip v x 0))
  code_column x h = of_text code x h
