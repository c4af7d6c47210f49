use native.Mathlib.Omega.{arith}
use Rattle.lines.proofs.Lines.{string_line_law}
use Rattle.lines.proofs.Puts.{puts_same, then}
use Rattle.lines.proofs.Page.string.Goals as goal

pub returns : goal.returns
returns c =
    let s = c.args in
    puts_same (string_line_law s.variable s.answer.now s.from s.count) (omega arith)
    (then c.byte.ensures (then c.decimal.ensures (then (then c.spaced.ensures c.characters.ensures) c.byte-2.ensures)))
