use mathlib.Core.Bool.{Bool, ◌&&◌}
use mathlib.Core.Path.{◌∙◌, ap, sym}
use lib.Dec.{eqb}
use Rattle.calculus.specs.Extended.{numeral}
use Rattle.extended.proofs.Numerals.{numeric_digits, value_test}
use Rattle.format.specs.Fields.{u32s}
use Rattle.extended.proofs.value_is.Goals as goal

pub numeral_value-requires : goal.numeral_value-requires
numeral_value-requires c = (c.requires.0, numeric_digits _ (sym c.if-is_numeric.ensures))

pub returns-then-is_numeric : goal.returns-then-is_numeric
returns-then-is_numeric c =
    let n = numeral (u32s c.args.v.now c.args.at c.args.count) in
    let r = c.numeral_value.ensures in
    value_test n c.numeral_value.result c.args.k c.requires.1 r.0 r.1 ∙ ap (λ (t : Bool). t && eqb n c.args.k) c.if-is_numeric.ensures
