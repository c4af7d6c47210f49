-- What the code answers about classes, tied to the calculus: labels that are kept, an optional literal.
use Rattle.std.specs.Prelude.{ℕ, ◌≤◌, ◌≡◌, cond, List, leb, ℤ, Option, Some, None}
use Rattle.std.proofs.Math.Option as math
use Rattle.calculus.specs.Classes.{labels}
use Rattle.rows.specs.Rows.{branch_of}
use Rattle.classes.specs.declared.Known.{Known}

-- the labels are those of the first upto rows of the work area, which are some of its first count rows
pub record Knows (w : List ℤ) (count : ℕ) (k : Known) : Type 0 where
  pub few : k.upto ≤ count
  pub labelled : k.labels ≡ labels (branch_of w k.upto)

-- what is known of the first mark facts: what was kept, or, where that goes further, what is known of the question's constraints
abbrev pub set_back : Known → Known → ℕ → Known
set_back known first mark = cond (leb known.upto mark) known first

-- the code's optional literal, in the calculus' words
unfoldable pub literal_of : Option ℕ → math.Option ℕ
literal_of (Some l) = math.some l
literal_of None = math.none
