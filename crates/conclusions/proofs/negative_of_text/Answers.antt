use lib.IntN.{neg_ℤ, pos}
use mathlib.Core.Path.{◌∙◌, ap}
use mir.Facts.{to_z-of_z}
use mir.Syntax.{w64}
use mir.ValLaws.{to_z_pos}
use native.Mathlib.Omega.{arith}
use Rattle.integers.proofs.Machine.{minus_fits, minus_is}
use Rattle.conclusions.proofs.Laws.{value_code, value_length}
use Rattle.conclusions.proofs.negative_of_text.Goals as goal

pub overflow_sub-result : goal.overflow_sub-result
overflow_sub-result c = let n = c.args.count in minus_fits (pos n) _ (to_z_pos w64 n (omega arith)) (omega arith)

pub returns-then-function-eq-LEN : goal.returns-then-function-eq-LEN
returns-then-function-eq-LEN c =
    let a = c.args in
    minus_is (pos a.count) _ (to_z_pos w64 a.count (omega arith)) (omega arith)
    ∙ ap neg_ℤ (value_length a.ticket.now a.function a.at a.count c.if-function-eq-LEN.true)

pub overflow_sub-result-else-function-eq-LEN : goal.overflow_sub-result-else-function-eq-LEN
overflow_sub-result-else-function-eq-LEN c =
    minus_fits c.text_code.result _ (to_z-of_z {w = w64} (record { sfits = c.text_code.type_inv })) (omega (arith, c.text_code.ensures.1))

pub returns-else-function-eq-LEN : goal.returns-else-function-eq-LEN
returns-else-function-eq-LEN c =
    let a = c.args in
    minus_is c.text_code.result _ (to_z-of_z {w = w64} (record { sfits = c.text_code.type_inv })) (omega (arith, c.text_code.ensures.1))
    ∙ ap neg_ℤ (c.text_code.ensures.0 ∙ value_code a.function _ c.if-function-eq-LEN.false)
