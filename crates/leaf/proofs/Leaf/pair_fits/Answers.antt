use mathlib.Core.Path.{◌∙◌, ◌≡◌}
use mir.Facts.{to_z-of_z}
use mir.Syntax.{w64}
use mir.Val.{of_z, to_z}
use Rattle.calculus.specs.Facts.{code, len}
use Rattle.calculus.specs.Model.{model_value}
use Rattle.question.specs.Posed.{numbered}
use Rattle.leaf.proofs.Leaf.pair_fits.Goals as goal

pub returns : goal.returns
returns c =
    let u = numbered c.args.self.now.s in
    let m = c.args.self.now.model.now in
    let w : to_z w64 (of_z w64 c.value_of-w.result) ≡ model_value u m len c.args.y =
    to_z-of_z {w = w64} (record { sfits = c.value_of-w.type_inv }) ∙ c.value_of-w.ensures in
    let d : to_z w64 (of_z w64 c.value_of-d.result) ≡ model_value u m code c.args.y =
    to_z-of_z {w = w64} (record { sfits = c.value_of-d.type_inv }) ∙ c.value_of-d.ensures in
    c.pair_by.ensures ∙ rw (c.one_class-same.ensures, to_z-of_z c.ranges.len, w, to_z-of_z c.ranges.code, d)
