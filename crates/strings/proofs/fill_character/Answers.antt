use Prim.Native.Nat.{ℕ}
use lib.IntN.{nat_abs, pos}
use mathlib.Core.Bool.{Bool}
use mathlib.Core.List.{[], ◌∷◌}
use mathlib.Core.Option.{some}
use mathlib.Core.Path.{◌∙◌, ap, sym}
use mir.Facts.{to_z-of_z}
use native.Mathlib.Omega.{arith}
use Rattle.calculus.specs.Strings.{one_char}
use Rattle.leaf.proofs.Signed.{equal_false, equal_true}
use Rattle.strings.proofs.Table.{first_put, sized_none, sized_some}
use Rattle.strings.proofs.fill_character.Goals as goal

pub overflow_cast-row : goal.overflow_cast-row
overflow_cast-row c = omega (arith, c.magnitude.ensures ∙ ap nat_abs (to_z-of_z c.ranges.code))

pub returns-then-len-eq1 : goal.returns-then-len-eq1
returns-then-len-eq1 c =
    sized_some 1 _ (omega arith)
    ∙ ap some (first_put c.args.row.now _ (omega arith))
    ∙ ap (λ (v : ℕ). some (v ∷ [])) (c.magnitude.ensures ∙ ap nat_abs (to_z-of_z c.ranges.code))
    ∙ sym (ap (λ (t : Bool). one_char t c.args.code) (equal_true c.args.len (pos 1) c.ranges.len (record { sfits = omega arith }) c.if-len-eq1.true))

pub returns : goal.returns
returns c =
    let s = c.args in
    sized_none 65 _ (omega arith) ∙ sym (ap (λ (t : Bool). one_char t s.code) (equal_false c.args.len (pos 1) c.ranges.len (record { sfits = omega arith }) c.if-len-eq1.false))
