-- What the functions of rule 1 give, from the definitions of the rule.
use Rattle.std.specs.Prelude.{ℕ, Bool, List, ◌∷◌, ◌++◌, take, drop, ℤ, pos}
use Rattle.std.proofs.Math.Option.{Option, none, some}
use Rattle.calculus.specs.LinearForms.{plus, scale}
use Rattle.calculus.specs.Facts.{Fact, Branch, arithmetic}
use Rattle.calculus.specs.Rules.{guard, then, sum_of, divided, sum_relation}
use Rattle.rows.specs.Rows.{fact_of}
use Rattle.rows.specs.Work.{tag_of}

-- a row's form times m added to a sum after its tag
unfoldable pub added : List ℤ → ℤ → List ℤ → List ℤ
added sum m row = take 1 sum ++ plus (drop 1 sum) (scale m (drop 1 row))

-- the row of e ≥ 0
abbrev pub ge_row : Option (List ℤ) → Option (List ℤ)
ge_row none = none
ge_row (some e) = some (pos 0 ∷ e)

-- the row, and the fact, where the step fits
unfoldable pub row_in : Bool → List ℤ → Option (List ℤ)
row_in t row = guard t row

unfoldable pub fact_in : Bool → List ℤ → Option Fact
fact_in t row = guard t (fact_of row)

-- the tag of the fact that a Sum with divisor d adds, r being the sum before it is divided
unfoldable pub sum_tag : Branch → ℕ → List (ℕ × ℤ) → List ℤ → ℤ
sum_tag b d ts r = pos (tag_of (arithmetic (sum_relation b d ts r) r))

-- the fact that a Sum with divisor d adds
unfoldable pub sum_fact : Branch → ℕ → List (ℕ × ℤ) → Option Fact
sum_fact b d ts = then (sum_of b ts) (λ r. then (divided d r) (λ e. some (arithmetic (sum_relation b d ts r) e)))
