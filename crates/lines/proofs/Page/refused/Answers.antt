use Prim.Native.Nat.{ℕ}
use mathlib.Core.Path.{ap}
use native.Mathlib.Omega.{arith}
use Rattle.lines.proofs.Puts.{puts_same, then}
use Rattle.lines.specs.Lines.{refused_line}
use Rattle.lines.proofs.Page.refused.Goals as goal

pub returns : goal.returns
returns c =
    puts_same (ap (λ (n : ℕ). refused_line n c.args.refusal.«record») c.number-number.ensures) (omega arith)
    (then c.text.ensures (then c.decimal.ensures (then c.text-2.ensures (then c.decimal-2.ensures c.byte.ensures))))
