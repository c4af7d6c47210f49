-- What the rows of the work area are known to be, and the forms that rules build.
use Rattle.std.specs.Prelude.{ℕ, suc, ◌≤◌, ◌≡◌, true, List, length, get_or, set, ℤ, pos, negsuc, nat_abs}
use Rattle.calculus.specs.Limits.{fact_limit, work_numbers}
use Rattle.calculus.specs.LinearForms.{number}
use Rattle.calculus.specs.Facts.{Fact, fact_tag}
use Rattle.format.specs.Checking.{facts_within}
use Rattle.rows.specs.Rows.{branch_of}

-- the first count rows of the work area: at most 128 facts, with every number within the limit
pub record Fine (w : List ℤ) (count : ℕ) : Type 0 where
  pub few : count ≤ fact_limit
  pub room : work_numbers ≤ length w
  pub small : facts_within (branch_of w count) ≡ true

-- every number is at most n in size
abbrev pub Within : ℕ → List ℤ → Type 0
Within n zs = (j : ℕ) → nat_abs (get_or zs j (pos 0)) ≤ n

-- the tag of a fact's row
unfoldable pub tag_of : Fact → ℕ
tag_of f = fact_tag f

-- the form c + k × column j
unfoldable pub single : ℤ → ℕ → ℤ → List ℤ
single c j k = set (number c) (suc j) k

-- the form column i − column j
unfoldable pub difference : ℕ → ℕ → List ℤ
difference i j = set (set (number (pos 0)) (suc i) (pos 1)) (suc j) (negsuc 0)
