-- The values of the columns of an assignment, by column.
use Prim.Native.Nat.{ℕ, ◌+◌, ◌<◌}
use native.Mathlib.Omega.{arith}
use mathlib.Core.Path.{◌≡◌, sym, ◌∙◌, ap}
use mathlib.Core.List.{List, [], ◌++◌, map}
use lib.ListN.{length, get_or, length-append, length-map, get_or-append}
use lib.Seq.{get_or-append-add}
use lib.IntN.{ℤ, pos}
use Rattle.lists.proofs.Lists.{get_d_map}
use Rattle.calculus.specs.Facts.{Question, Function, len, code, value_of, column_count, column_of}
use Rattle.calculus.specs.Meaning.{Assignment, str, columns}

module _ (u : Question) (a : Assignment) (strings : length a.strs ≡ u.p) (integers : length a.ints ≡ u.q) where
  -- the values of one function
  abbrev stretch : Function → List ℤ
  stretch f = map (value_of f) a.strs

  long : (f : Function) → length (stretch f) ≡ u.p
  long f = length-map a.strs (value_of f) ∙ strings

  -- an entry after the first list
  behind : (xs ys : List ℤ) (k n : ℕ) → length xs ≡ k → get_or (xs ++ ys) (k + n) (pos 0) ≡ get_or ys n (pos 0)
  behind xs ys k n e = ap (λ (m : ℕ). get_or (xs ++ ys) (m + n) (pos 0)) (sym e) ∙ get_or-append-add xs ys n (pos 0)

  value_at : (f : Function) (x : ℕ) → x < u.p → get_or (stretch f) x (pos 0) ≡ value_of f (str a x)
  value_at f x h = get_d_map (value_of f) a.strs x [] (pos 0) (omega (arith, strings))

  pub length_columns : length (columns a) ≡ column_count u
  length_columns =
      length-append a.ints (stretch len ++ stretch code) ∙ omega (arith, length-append (stretch len) (stretch code), integers, long len, long code)

  pub integer_value : (j : ℕ) → j < u.q → get_or (columns a) j (pos 0) ≡ get_or a.ints j (pos 0)
  integer_value j h = get_or-append a.ints (stretch len ++ stretch code) (pos 0) j (omega (arith, integers))

  pub column_value : (f : Function) (x : ℕ) → x < u.p → get_or (columns a) (column_of u f x) (pos 0) ≡ value_of f (str a x)
  column_value len x h =
      behind a.ints (stretch len ++ stretch code) u.q x integers
      ∙ get_or-append (stretch len) (stretch code) (pos 0) x (omega (arith, long len))
      ∙ value_at len x h
  column_value code x h =
      behind a.ints (stretch len ++ stretch code) u.q (u.p + x) integers ∙ behind (stretch len) (stretch code) u.p x (long len) ∙ value_at code x h
