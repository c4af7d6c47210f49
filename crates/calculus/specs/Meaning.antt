-- "an assignment gives every string variable a finite string of any length over the alphabet and every integer variable any integer;
-- it meets a constraint when the relation holds for those values with their len and code".
use Rattle.std.specs.Prelude.{ℕ, ◌≡◌, ◌≢◌, List, [], ◌++◌, map, length, get_or, ℤ}
use Rattle.lists.specs.Lists.{All}
use Rattle.calculus.specs.Alphabet.{Over}
use Rattle.calculus.specs.LinearForms.{value_in}
use Rattle.calculus.specs.Facts.{Question, Fact, same, not_same, is_literal, arithmetic, Branch, Holds, literal, value_of, len, code}

pub record Assignment : Type 0 where
  pub strs : List (List ℕ)
  pub ints : List ℤ

abbrev pub str : Assignment → ℕ → List ℕ
str a x = get_or a.strs x []

-- an assignment of the question's variables
pub record IsAssignment (u : Question) (a : Assignment) : Type 0 where
  pub strings : length a.strs ≡ u.p
  pub integers : length a.ints ≡ u.q
  pub over : (x : ℕ) → Over u.n (str a x)

-- "Columns: the q integer variables, then len of each string variable, then code of each": their values
abbrev pub columns : Assignment → List ℤ
columns a = a.ints ++ (map (value_of len) a.strs ++ map (value_of code) a.strs)

abbrev pub value : Assignment → List ℤ → ℤ
value a e = value_in (columns a) e

abbrev pub Meets : Question → Assignment → Fact → Type 0
Meets u a (same x y) = str a x ≡ str a y
Meets u a (not_same x y) = str a x ≢ str a y
Meets u a (is_literal x l) = str a x ≡ literal u l
Meets u a (arithmetic r e) = Holds r (value a e)

abbrev pub Met : Question → Assignment → Branch → Type 0
Met u a b = All (Meets u a) b
