use Prim.Native.Nat.{ℕ, ◌+◌}
use lib.IntN.{ℤ}
use mathlib.Core.List.{List, [], ◌∷◌, ◌++◌}
use mathlib.Core.Path.{◌∙◌, ◌≡◌, ap, sym}
use native.Mathlib.Omega.{arith}
use Rattle.calculus.specs.LinearForms.{column, above}
use Rattle.calculus.specs.Facts.{Fact, is_literal, arithmetic, ge}
use Rattle.question.specs.Columns.{column_at}
use Rattle.rows.specs.Rows.{branch_of}
use Rattle.rows.proofs.Forms.{above_column}
use Rattle.splits.proofs.Forms.{child_one, child_two}
use Rattle.splits.proofs.put_l_valid.Goals as goal

pub returns-then-k-eq1 : goal.returns-then-k-eq1
returns-then-k-eq1 c =
    c.put_string.ensures
    ∙ ap (λ (l : List Fact). branch_of c.args.work.now c.args.count ++ l)
    (child_one (is_literal c.args.x 0 ∷ []) ((arithmetic ge (above (column (c.args.s.q + c.args.x))) ∷ []) ∷ []) c.args.k
    c.if-k-eq1.true)

pub returns-else-k-eq1 : goal.returns-else-k-eq1
unfolding column_at
returns-else-k-eq1 c =
    let br = branch_of c.args.work.now c.args.count in
    let e : c.args.k ≡ 2 = omega (arith, c.requires.x_lt_variable_limit, c.if-k-eq1.false) in
    let j = c.column_of in
    c.put_single.ensures
    ∙ ap (λ (l : List ℤ). br ++ (arithmetic ge l ∷ [])) (sym (above_column j.result j.ensures.1))
    ∙ ap (λ (i : ℕ). br ++ (arithmetic ge (above (column i)) ∷ [])) j.ensures.0
    ∙ ap (λ (l : List Fact). br ++ l)
    (child_two (is_literal c.args.x 0 ∷ []) (arithmetic ge (above (column (c.args.s.q + c.args.x))) ∷ []) [] c.args.k e)
