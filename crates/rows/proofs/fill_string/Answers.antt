use Prim.Native.Nat.{◌+◌}
use borrow.Author.Rules.{rules}
use lib.ListN.{length, length-set}
use mathlib.Core.Path.{◌≡◌}
use mir.Facts.{to_z_pos}
use mir.Syntax.{w64}
use native.Mathlib.Omega.{arith}
use Rattle.rows.proofs.Tags.{string_fact_law}
use Rattle.rows.proofs.fill_string.Goals as goal

pub bounds-row-2 : goal.bounds-row-2
bounds-row-2 c =
    let n : length c.clear_row.new.row ≡ 50 = search rules in
    simp length-set (omega arith)

pub returns : goal.returns
returns c =
    let a = c.args in
    rw (
      c.clear_row.ensures,
      to_z_pos w64 {n = a.relation + 3} (omega arith),
      to_z_pos w64 {n = a.a} (omega arith),
      to_z_pos w64 {n = a.b} (omega arith),
    )
    (string_fact_law a.relation a.a a.b _ c.requires.relation_bound.0 c.requires.relation_bound.1 c.requires.relation_bound.2)
