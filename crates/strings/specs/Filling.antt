-- The table of strings while it is filled: a size past 64 says that a variable has no string yet.
use Rattle.std.specs.Prelude.{ℕ, zero, suc, ◌*◌, Bool, true, false, cond, List, [], ◌∷◌, get_or, take, drop, leb, ltb, ℤ, nat_abs}
use Rattle.std.proofs.Math.Option.{Option, none, some}
use Rattle.calculus.specs.Limits.{length_limit}
use Rattle.calculus.specs.Facts.{Question, len, code}
use Rattle.calculus.specs.Classes.{literal_in}
use Rattle.calculus.specs.Model.{model_value}
use Rattle.calculus.specs.SettledTest.{lowest_variable}
use Rattle.calculus.specs.Strings.{eq_string, fresh_from, fixed_by}
use Rattle.question.specs.declared.Progress.{Progress}
use Rattle.question.specs.Posed.{numbered}
use Rattle.answer.specs.Table.{row}

-- the first size characters, where there are at most 64
unfoldable pub sized : ℕ → List ℕ → Option (List ℕ)
sized size characters = cond (leb size length_limit) (some (take size characters)) none

-- the string of variable y in a table
abbrev pub string_in : List ℕ → List ℕ → ℕ → Option (List ℕ)
string_in characters sizes y = sized (get_or sizes y 0) (drop (length_limit * y) characters)

-- the strings of the first variables that have one
unfoldable pub before : Option (List ℕ) → List (List ℕ) → List (List ℕ)
before none ss = ss
before (some s) ss = s ∷ ss

unfoldable pub given_strings : List ℕ → List ℕ → ℕ → List (List ℕ)
given_strings characters sizes zero = []
given_strings characters sizes (suc y) = before (string_in characters sizes y) (given_strings characters sizes y)

-- the string w is the one there
unfoldable pub is_it : Option (List ℕ) → List ℕ → Bool
is_it none w = false
is_it (some s) w = eq_string w s

-- what the first two rounds give to variable x: the calculus' `fixed_string` with the labels ls of the branch
abbrev pub fixed_at : Question → List ℕ → List ℤ → ℕ → Option (List ℕ)
fixed_at u ls m x = fixed_by u (literal_in u ls x) (model_value u m len x) (model_value u m code x)

-- the string of variable x, of length l, in the third round: its own, that of the lowest variable of its class, or the first that is not given
unfoldable pub completed : ℕ → ℕ → List ℕ → ℕ → List ℕ → List ℕ → ℕ → List ℕ
completed n p ls l characters sizes x = elim (string_in characters sizes x) [
  | some s ↦ s
  | none ↦
      elim (ltb (lowest_variable ls x) x) [
        | true ↦ row characters (lowest_variable ls x) (get_or sizes (lowest_variable ls x) 0)
        | false ↦ fresh_from p n l (given_strings characters sizes p) 0
      ]
]

-- where the model gives the length
abbrev pub completed_by : Progress → List ℕ → List ℤ → List ℕ → List ℕ → ℕ → List ℕ
completed_by s ls m characters sizes x = completed s.n s.p ls (nat_abs (model_value (numbered s) m len x)) characters sizes x
