use Prim.Native.Nat.{◌+◌}
use borrow.Author.Rules.{rules}
use lib.IntN.{negsuc, pos, ℤ}
use lib.ListN.{length, length-set, set}
use mathlib.Core.List.{List}
use mathlib.Core.Path.{◌≡◌, ◌∙◌, ap}
use mir.Facts.{to_z_pos}
use mir.Syntax.{w64}
use mir.Val.{to_z}
use native.Mathlib.Omega.{arith}
use Rattle.rows.proofs.Forms.{difference_fact}
use Rattle.rows.specs.Rows.{fact_of}
use Rattle.rows.proofs.fill_difference.Goals as goal

pub slice_set_of-row : goal.slice_set_of-row
slice_set_of-row c =
    let n : length c.clear_row.new.row ≡ 50 = search rules in
    simp length-set (omega arith)

pub slice_set_of-row-2 : goal.slice_set_of-row-2
slice_set_of-row-2 c =
    let n : length c.clear_row.new.row ≡ 50 = search rules in
    simp length-set (omega arith)

pub returns : goal.returns
returns c =
    let a = c.args in
    ap (λ (l : List ℤ). fact_of (set (set (set l 0 (to_z w64 a.relation)) (a.i + 2) (pos 1)) (a.j + 2) (negsuc 0))) c.clear_row.ensures
    ∙ rw (to_z_pos w64 {n = a.relation} (omega arith)) (difference_fact a.relation a.i a.j c.requires.relation_bound.0)
