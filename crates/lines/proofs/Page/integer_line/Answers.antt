use mathlib.Core.Path.{ap}
use mir.Facts.{to_z-of_z}
use mir.Syntax.{w64}
use native.Mathlib.Omega.{arith}
use Rattle.lines.proofs.Puts.{puts_same, then}
use Rattle.lines.specs.Lines.{integer_line}
use Rattle.lines.proofs.Page.integer_line.Goals as goal

pub returns : goal.returns
returns c =
    puts_same (ap (integer_line c.args.variable) (to_z-of_z {w = w64} c.ranges.z)) (omega arith)
    (then c.byte.ensures (then c.decimal.ensures (then c.byte-2.ensures (then c.integer.ensures c.byte-3.ensures))))
