use Prim.Native.Nat.{ℕ}
use lib.IntN.{ℤ}
use mathlib.Core.List.{◌++◌}
use mathlib.Core.Path.{◌≡◌, ◌∙◌, ap}
use mir.Facts.{to_z-of_z}
use mir.Syntax.{w64}
use native.Mathlib.Omega.{arith}
use Rattle.format.specs.Fields.{i32s}
use Rattle.lines.proofs.Lines.{integers_next}
use Rattle.lines.proofs.Puts.{then, puts_same, puts_none}
use Rattle.lines.specs.Lines.{integer_line, integer_lines}
use Rattle.lines.proofs.Page.integers.Goals as goal

pub loop-variable-init : goal.loop-variable-init
unfolding integer_lines i32s
loop-variable-init c = puts_none _

pub loop-variable-preserved : goal.loop-variable-preserved
loop-variable-preserved c =
    let s = c.args in
    let i = c.loop-variable.variable in
    let next =
    ap (λ (z : ℤ). integer_lines 0 (i32s s.answer.now s.from i) ++ integer_line i z) (to_z-of_z {w = w64} (record { sfits = c.i32_at.type_inv }) ∙ c.i32_at.ensures.0)
    ∙ integers_next s.answer.now s.from i in
    puts_same next (omega arith) (then c.loop-variable.invariant c.integer_line.ensures)

pub returns : goal.returns
returns c =
    let s = c.args in
    let e : c.loop-variable.variable ≡ s.count = omega arith in
    puts_same (ap (λ (k : ℕ). integer_lines 0 (i32s s.answer.now s.from k)) e) (omega arith) c.loop-variable.invariant
