use Prim.Native.Nat.{◌+◌}
use borrow.Author.Rules.{rules}
use lib.IntN.{ℤ}
use lib.ListN.{length, length-set, set}
use mathlib.Core.List.{List}
use mathlib.Core.Path.{◌≡◌, ◌∙◌, ap}
use mir.Facts.{to_z-of_z, to_z_pos}
use mir.Syntax.{w64}
use mir.Val.{of_z, to_z}
use native.Mathlib.Omega.{arith}
use Rattle.rows.proofs.Forms.{single_fact}
use Rattle.rows.specs.Rows.{fact_of}
use Rattle.rows.proofs.fill_single.Goals as goal

pub bounds-row-column : goal.bounds-row-column
bounds-row-column c =
    let n : length c.clear_row.new.row ≡ 50 = search rules in
    simp length-set (omega arith)

pub returns : goal.returns
returns c =
    let a = c.args in
    ap (λ (l : List ℤ). fact_of
    (set (set (set l 0 (to_z w64 a.relation)) 1 (to_z w64 (of_z w64 a.constant))) (a.column + 2) (to_z w64 (of_z w64 a.coefficient))))
    c.clear_row.ensures
    ∙ rw (to_z_pos w64 {n = a.relation} (omega arith), to_z-of_z c.ranges.constant, to_z-of_z c.ranges.coefficient)
    (single_fact a.relation a.constant a.column a.coefficient c.requires.relation_bound.0)
