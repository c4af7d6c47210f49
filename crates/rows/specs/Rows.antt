-- A fact as a row of 50 numbers: "Each fact's row is filled in its own stretch of the work area".
use Rattle.std.specs.Prelude.{cond, ◌≡◌, List, [], ◌∷◌, ◌++◌, ℕ, zero, suc, ◌+◌, ◌*◌, get_or, take, drop, ltb, ℤ, pos, negsuc}
use Rattle.lists.specs.Lists.{up_to}
use Rattle.calculus.specs.Limits.{variable_limit, column_limit}
use Rattle.calculus.specs.Facts.{Fact, Branch, same, not_same, is_literal, arithmetic, ge, eq, ne}

-- a row's numbers: its tag, the constant and a coefficient for each column
abbrev pub row_length : ℕ
row_length = column_limit + 2

-- a number below a limit, and 0 for any other
abbrev pub index_below : ℕ → ℤ → ℕ
index_below limit (pos k) = cond (ltb k limit) k 0
index_below limit (negsuc k) = 0

-- a number as that of a variable or a literal: there are as many literals, the empty one included, as variables
abbrev pub index : ℤ → ℕ
index z = index_below variable_limit z

-- what a row says by its tag: 0 is ≥, 1 is =, 3 is variable ≈ variable, 4 is ≉, 5 is variable ≈ literal, any other is ≠.
-- Of an arithmetic fact the form e stands after the tag; of a string fact the operands a and b.
unfoldable pub tagged : ℤ → ℕ → ℕ → List ℤ → Fact
tagged (pos zero) a b e = arithmetic ge e
tagged (pos (suc zero)) a b e = arithmetic eq e
tagged (pos (suc (suc zero))) a b e = arithmetic ne e
tagged (pos (suc (suc (suc zero)))) a b e = same a b
tagged (pos (suc (suc (suc (suc zero))))) a b e = not_same a b
tagged (pos (suc (suc (suc (suc (suc zero)))))) a b e = is_literal a b
tagged (pos (suc (suc (suc (suc (suc (suc k))))))) a b e = arithmetic ne e
tagged (negsuc k) a b e = arithmetic ne e

unfoldable pub fact_of : List ℤ → Fact
fact_of row = tagged (get_or row 0 (pos 0)) (index (get_or row 1 (pos 0))) (index (get_or row 2 (pos 0))) (drop 1 row)

-- row k of the work area: "its own stretch"
abbrev pub row_at : List ℤ → ℕ → List ℤ
row_at w k = take row_length (drop (row_length * k) w)

-- the first k rows, as facts
unfoldable pub branch_of : List ℤ → ℕ → Branch
branch_of w k = up_to (λ j. fact_of (row_at w j)) k

-- the fact f was put after the first k facts
abbrev pub Behind : List ℤ → ℕ → Fact → List ℤ → Type 0
Behind w k f w' = branch_of w' (k + 1) ≡ branch_of w k ++ (f ∷ [])
