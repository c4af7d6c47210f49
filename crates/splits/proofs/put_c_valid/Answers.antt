use mathlib.Core.List.{List, ◌++◌}
use mathlib.Core.Path.{◌∙◌, ◌≡◌, ap}
use native.Mathlib.Omega.{arith}
use Rattle.calculus.specs.Facts.{Fact}
use Rattle.rows.specs.Rows.{branch_of}
use Rattle.splits.proofs.Forms.{c_valid_one, c_valid_two}
use Rattle.splits.proofs.put_c_valid.Goals as goal

pub returns-then-k-eq1 : goal.returns-then-k-eq1
returns-then-k-eq1 c =
    let len = c.column_of-len in
    let code = c.column_of-code in
    c.put_codeless.ensures
    ∙ ap (λ (l : List Fact). branch_of c.args.work.now c.args.count ++ l)
    (c_valid_one c.args.s c.args.x len.result code.result len.ensures.0 code.ensures.0 len.ensures.1 code.ensures.1
    c.args.k c.if-k-eq1.true)

pub returns-else-k-eq1 : goal.returns-else-k-eq1
returns-else-k-eq1 c =
    let len = c.column_of-len in
    let code = c.column_of-code in
    let e : c.args.k ≡ 2 = omega (arith, c.requires, c.if-k-eq1.false) in
    c.put_coded.ensures
    ∙ ap (λ (l : List Fact). branch_of c.args.work.now c.args.count ++ l)
    (c_valid_two c.args.s c.args.x len.result code.result len.ensures.0 code.ensures.0 len.ensures.1 code.ensures.1
    c.args.k e)
