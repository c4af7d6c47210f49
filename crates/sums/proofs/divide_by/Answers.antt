use borrow.Author.Tests.{eq-eqb}
use lib.IntN.{nat_abs, pos, ℤ}
use lib.ListN.{drop, length, length-drop}
use mathlib.Core.List.{List}
use mathlib.Core.Option.{some}
use Rattle.std.proofs.Common.{rules}
use mathlib.Core.Path.{◌∙◌, ◌≡◌, ap, sym}
use mir.Facts.{to_z-of_z}
use native.Mathlib.Omega.{arith}
use Rattle.calculus.specs.Rules.{divided}
use Rattle.rows.proofs.Tags.{from_bits}
use Rattle.sums.proofs.Division.{divided_one, tag_first}
use Rattle.sums.specs.Sums.{ge_row, row_in}
use Rattle.sums.proofs.divide_by.Goals as goal

pub returns-then-d-eq1 : goal.returns-then-d-eq1
unfolding row_in
returns-then-d-eq1 c =
    let row : List ℤ = c.args.row.now in
    let n : length row ≡ 50 = search rules in
    let d : c.args.d ≡ pos 1 = from_bits c.args.d 1 c.ranges.d c.if-d-eq1.true (omega arith) in
    let whole : divided 1 (drop 1 row) ≡ some (drop 1 row) = divided_one (drop 1 row) (omega (arith, length-drop 1 row)) in
    rw (eq-eqb _ _ c.if-d-eq1.true)
    (ap some (tag_first row (pos 0) n c.requires.1) ∙ sym (ap (λ (z : ℤ). ge_row (divided (nat_abs z) (drop 1 row))) d ∙ ap ge_row whole))

pub returns-else-d-eq1 : goal.returns-else-d-eq1
returns-else-d-eq1 c =
    c.divide.ensures ∙ ap (λ (z : ℤ). ge_row (divided (nat_abs z) (drop 1 c.args.row.now))) (to_z-of_z c.ranges.d)
