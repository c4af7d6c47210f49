-- The answer as checking holds it before it is written: a table with 64 characters for each string variable, their numbers, and the model.
use Rattle.std.specs.Prelude.{ℕ, ◌*◌, ◌≤◌, ◌<◌, List, length, get_or, take, drop, ℤ, pos}
use Rattle.lists.specs.Lists.{up_to}
use Rattle.calculus.specs.Limits.{variable_limit, length_limit, Small, value_limit}
use Rattle.calculus.specs.Meaning.{Assignment}

-- the first size characters of variable x's row
abbrev pub row : List ℕ → ℕ → ℕ → List ℕ
row characters x size = take size (drop (length_limit * x) characters)

-- the strings of the first x variables
unfoldable pub table_strings : List ℕ → List ℕ → ℕ → List (List ℕ)
table_strings characters sizes x = up_to (λ y. row characters y (get_or sizes y 0)) x

-- "The integers are the model's": its first q numbers
abbrev pub table_answer : List ℕ → List ℕ → ℕ → List ℤ → ℕ → Assignment
table_answer characters sizes p model q = record { strs = table_strings characters sizes p; ints = take q model }

-- a table of p strings of at most 64 characters
pub record Table (characters sizes : List ℕ) (p : ℕ) : Type 0 where
  pub few : p ≤ variable_limit
  pub room : length_limit * p ≤ length characters
  pub sized : p ≤ length sizes
  pub short : (x : ℕ) → x < p → get_or sizes x 0 ≤ length_limit

-- q integers "within ±100,000,000" stand in front
pub record Integers (zs : List ℤ) (q : ℕ) : Type 0 where
  pub few : q ≤ variable_limit
  pub there : q ≤ length zs
  pub small : (i : ℕ) → i < q → Small value_limit (get_or zs i (pos 0))
