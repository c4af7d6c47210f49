use Prim.Native.Nat.{◌*◌}
use Rattle.format.specs.Fields.{i32s}
use Rattle.lines.specs.Lines.{integer_lines}
use Rattle.lines.specs.Pages.{Puts}
use Rattle.lines.proofs.Page.integers.Given as goal

abbrev pub invariant-loop-variable : goal.invariant-loop-variable
invariant-loop-variable l = Puts l.initial.self (integer_lines 0 (i32s l.answer l.from l.variable)) (44 * l.variable) l.self
