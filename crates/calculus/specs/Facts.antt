-- Questions and their facts; "Its constraints are facts 0, 1 and on".
use Rattle.std.specs.Prelude.{ℕ, ◌+◌, ◌≡◌, ◌≢◌, Bool, true, not, List, [], ◌∷◌, length, get_or, ℤ, pos, negsuc, ◌≤ℤ◌}
use Rattle.std.specs.Int.Signed.{non_neg}
use Rattle.calculus.specs.LinearForms.{column, is_zero}

-- "relation (0 is ≥ 0, 1 is = 0, 2 is ≠ 0)"
pub data Relation : Type 0 where
  ge eq ne : Relation

-- the relation holds for a number, in words and as a test
abbrev pub Holds : Relation → ℤ → Type 0
Holds ge z = pos 0 ≤ℤ z
Holds eq z = z ≡ pos 0
Holds ne z = z ≢ pos 0

abbrev pub holds : Relation → ℤ → Bool
holds ge z = non_neg z
holds eq z = is_zero z
holds ne z = not (is_zero z)

-- variable ≈ variable, variable ≉ variable, variable ≈ literal, and a form related to 0
pub data Fact : Type 0 where
  same : ℕ → ℕ → Fact
  not_same : ℕ → ℕ → Fact
  is_literal : ℕ → ℕ → Fact
  arithmetic : Relation → List ℤ → Fact

-- a number for each kind of fact, an arithmetic one by its relation
abbrev pub fact_tag : Fact → ℕ
fact_tag (arithmetic ge e) = 0
fact_tag (arithmetic eq e) = 1
fact_tag (arithmetic ne e) = 2
fact_tag (same x y) = 3
fact_tag (not_same x y) = 4
fact_tag (is_literal x l) = 5

-- what is asked of arithmetic facts alone, in words and as a test
abbrev pub OnArithmetic : (Relation → List ℤ → Type 0) → Fact → Type 0
OnArithmetic P (same x y) = Unit {0}
OnArithmetic P (not_same x y) = Unit {0}
OnArithmetic P (is_literal x l) = Unit {0}
OnArithmetic P (arithmetic r e) = P r e

abbrev pub on_arithmetic : (Relation → List ℤ → Bool) → Fact → Bool
on_arithmetic t (same x y) = true
on_arithmetic t (not_same x y) = true
on_arithmetic t (is_literal x l) = true
on_arithmetic t (arithmetic r e) = t r e

-- the facts that stand, by their numbers
abbrev pub Branch : Type 0
Branch = List Fact

-- "Kinds 1 to 4 are the question": n characters, p string and q integer variables
pub record Question : Type 0 where
  pub n : ℕ
  pub p : ℕ
  pub q : ℕ
  pub literals : List (List ℕ)
  pub constraints : Branch

-- a question of n characters and p and q variables, without literals and constraints
abbrev pub blank : ℕ → ℕ → ℕ → Question
blank n p q = record { n = n; p = p; q = q; literals = []; constraints = [] }

-- "literal 0 is the empty string and is never written"
abbrev pub literal : Question → ℕ → List ℕ
literal u l = get_or ([] ∷ u.literals) l []

-- "function (0 len, 1 code)"
pub data Function : Type 0 where
  len code : Function

-- "Columns: the q integer variables, then len of each string variable, then code of each": how many there are, and that of f(x)
abbrev pub column_count : Question → ℕ
column_count u = u.q + (u.p + u.p)

abbrev pub column_of : Question → Function → ℕ → ℕ
column_of u len x = u.q + x
column_of u code x = u.q + (u.p + x)

-- the form f(x)
abbrev pub apply : Question → Function → ℕ → List ℤ
apply u f x = column (column_of u f x)

-- "code (the code point of a one-character string, else −1)"
abbrev pub code_of : List ℕ → ℤ
code_of [] = negsuc 0
code_of (c ∷ []) = pos c
code_of (c ∷ d ∷ s) = negsuc 0

abbrev pub value_of : Function → List ℕ → ℤ
value_of len s = pos (length s)
value_of code s = code_of s
