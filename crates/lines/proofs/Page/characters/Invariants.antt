use Prim.Native.Nat.{◌*◌}
use Rattle.format.specs.Fields.{u32s}
use Rattle.lines.specs.Lines.{spaced}
use Rattle.lines.specs.Pages.{Puts}
use Rattle.lines.proofs.Page.characters.Given as goal

abbrev pub invariant-loop-i : goal.invariant-loop-i
invariant-loop-i l = Puts l.initial.self (spaced (u32s l.answer l.from l.i)) (21 * l.i) l.self
