use lib.IntN.{pos, ℤ}
use lib.Signed.{lt_z}
use mathlib.Core.Path.{◌∙◌, ap, sym}
use mir.Facts.{to_z-of_z}
use Rattle.leaf.proofs.Laws.{length_empty, length_other}
use Rattle.leaf.proofs.Leaf.length_fits.Goals as goal

pub returns-then-class_holds : goal.returns-then-class_holds
returns-then-class_holds c =
    let s = c.args in
    c.if-class_holds.true ∙ sym (length_empty s.self.now.labels.now s.x s.len (sym c.class_holds.ensures ∙ c.if-class_holds.true))

pub returns-else-class_holds : goal.returns-else-class_holds
returns-else-class_holds c =
    ap (λ (z : ℤ). lt_z (pos 0) z) (to_z-of_z c.ranges.len)
    ∙ sym (length_other c.args.self.now.labels.now c.args.x c.args.len (sym c.class_holds.ensures ∙ c.if-class_holds.false))
