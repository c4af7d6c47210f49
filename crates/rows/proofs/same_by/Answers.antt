use Prim.Native.Nat.{◌+◌}
use borrow.Author.Tests.{ne_eqb}
use mathlib.Core.Path.{◌∙◌, ap, sym}
use mir.Syntax.{w64}
use mir.Val.{of_z}
use Rattle.rows.proofs.Tested.{eq_integers_differ}
use Rattle.rows.proofs.same_by.Goals as goal

pub returns-else-row-column : goal.returns-else-row-column
returns-else-row-column c =
    let s = c.args in
    let n = c.if-row-column.false in
    ne_eqb _ _ n ∙ sym (eq_integers_differ s.row.now s.other.now (s.column + 2) (λ e. n (ap (of_z w64) e)))
