-- Children as the code puts them after the first count facts of a branch.
use Rattle.std.specs.Prelude.{ℕ, ◌+◌, Bool, List, [], ◌∷◌, ◌++◌, drop, ℤ, pos, negsuc, neg_ℤ}
use Rattle.calculus.specs.Facts.{Fact, Branch, arithmetic, ge, eq, ne}
use Rattle.calculus.specs.Children.{child_at, apart_children, pair_children}
use Rattle.calculus.specs.Rules.{neighbours, last_child}
use Rattle.format.specs.Fields.{u16, u16s}
use Rattle.format.specs.Checking.{or_none}
use Rattle.question.specs.declared.Progress.{Progress}
use Rattle.question.specs.Posed.{numbered}
use Rattle.rows.specs.Rows.{row_at, branch_of}
use Rattle.rows.specs.Work.{single}

-- with child k of those given
abbrev pub extended : List ℤ → ℕ → List (List Fact) → ℕ → Branch
extended w count cs k = branch_of w count ++ or_none (child_at cs k)

-- Apart's children, of the fact of row k
abbrev pub apart_at : List ℤ → ℕ → List (List Fact)
apart_at w k = apart_children (drop 1 (row_at w k))

-- ---- Card, of the variables from a position

-- the lengths of neighbours agree, of the first and so many others
abbrev pub lengths_agree : List ℕ → Progress → ℕ → ℕ → List ℤ → ℕ → Bool
lengths_agree b s at others w count = neighbours (numbered s) (branch_of w count) (u16 b at) (u16s b (at + 2) others)

-- the children, of m variables
abbrev pub card_at : List ℕ → Progress → ℕ → ℕ → List (List Fact)
card_at b s at m = pair_children (u16s b at m) (last_child (numbered s) (u16 b at) m)

-- ---- C-Valid, by the columns of len(x) and code(x)

-- "len(x) ≠ 1 and code(x) = −1"
abbrev pub codeless : ℕ → ℕ → List Fact
codeless len code = arithmetic ne (single (negsuc 0) len (pos 1)) ∷ arithmetic eq (single (pos 1) code (pos 1)) ∷ []

-- len(x) = 1, and code(x) is from low to high
abbrev pub coded : ℕ → ℕ → ℕ → ℕ → List Fact
coded len code low high =
    arithmetic eq (single (negsuc 0) len (pos 1)) ∷ arithmetic ge (single (neg_ℤ (pos low)) code (pos 1)) ∷ arithmetic ge (single (pos high) code (negsuc 0))
    ∷ []
