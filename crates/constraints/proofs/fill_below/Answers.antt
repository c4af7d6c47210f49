use Prim.Native.Nat.{◌+◌}
use lib.IntN.{◌*ℤ◌, ◌+ℤ◌, negsuc, pos, ℤ}
use mathlib.Core.List.{◌∷◌}
use mathlib.Core.Path.{◌∙◌, ap, sym}
use native.Mathlib.Omega.{arith}
use Rattle.calculus.specs.Facts.{arithmetic, ge}
use Rattle.calculus.specs.LinearForms.{scale, zeros}
use Rattle.format.specs.Fields.{i32, pairs_at}
use Rattle.format.specs.Question.{fill_coefficients}
use Rattle.format.proofs.Fields.{length_form}
use Rattle.rows.proofs.Forms.{below_form}
use Rattle.rows.proofs.Small.{under_fits, under_is}
use Rattle.rows.proofs.Tags.{relation_fact}
use Rattle.rows.specs.Rows.{fact_of}
use Rattle.constraints.proofs.fill_below.Goals as goal

pub overflow_sub-constant : goal.overflow_sub-constant
overflow_sub-constant c = under_fits c.i32_at-constant.result 2147483648 c.i32_at-constant.ensures.1 (omega arith)

pub returns : goal.returns
returns c =
    let a = c.args in
    let b = a.b.now in
    let i = c.i32_at-constant in
    let e =
    under_is i.result 2147483648 i.ensures.1 (omega arith) ∙ ap (λ (y : ℤ). (negsuc 0 *ℤ y) +ℤ negsuc 0) i.ensures.0 in
    let coefficients = fill_coefficients (zeros 48) (pairs_at b (a.at + 4) a.pairs) in
    ap fact_of (c.fill_signed.ensures ∙ ap (λ (x : ℤ). pos 0 ∷ x ∷ scale (negsuc 0) coefficients) e)
    ∙ relation_fact 0 _ (omega arith)
    ∙ ap (arithmetic ge) (sym (below_form (i32 b a.at) coefficients (omega (arith, length_form b a.at a.pairs))))
