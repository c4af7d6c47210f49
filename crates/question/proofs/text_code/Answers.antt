use lib.IntN.{nat_abs, pos}
use mathlib.Core.Path.{◌∙◌, ap, sym}
use mir.Syntax.{w64}
use mir.ValLaws.{to_z_pos}
use native.Mathlib.Omega.{arith}
use Rattle.question.proofs.Texts.{code_one, code_other}
use Rattle.question.proofs.text_code.Goals as goal

pub returns-then-count-eq1 : goal.returns-then-count-eq1
returns-then-count-eq1 c =
    let s = c.args in
    let e = to_z_pos w64 c.u32_at.result (omega arith) in (
      e ∙ ap pos c.u32_at.ensures.0 ∙ sym (code_one s.b.now s.at s.count c.if-count-eq1.true),
      omega (arith, ap nat_abs e),
    )

pub returns-else-count-eq1 : goal.returns-else-count-eq1
returns-else-count-eq1 c =
    let s = c.args in
    (sym (code_other s.b.now s.at s.count c.if-count-eq1.false), omega arith)
