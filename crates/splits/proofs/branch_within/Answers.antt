use borrow.Author.Tests.{eq-eqb}
use lib.IntN.{◌*ℤ◌, ◌+ℤ◌, negsuc, ℤ}
use mathlib.Core.List.{[], ◌∷◌}
use mathlib.Core.Path.{◌∙◌, ◌≡◌, ap, sym}
use native.Mathlib.Omega.{arith}
use Rattle.calculus.specs.Limits.{column_limit}
use Rattle.calculus.specs.Facts.{arithmetic, ge}
use Rattle.calculus.specs.LinearForms.{below}
use Rattle.format.specs.Question.{form_of}
use Rattle.format.specs.Checking.{facts_within}
use Rattle.format.proofs.Fields.{length_form}
use Rattle.rows.proofs.Small.{under_fits, under_is}
use Rattle.constraints.proofs.Ranges.{form_within}
use Rattle.splits.proofs.Forms.{child_one, child_two}
use Rattle.splits.proofs.Limits.{one_within, below_within}
use Rattle.splits.proofs.branch_within.Goals as goal

pub returns-then-k-eq1 : goal.returns-then-k-eq1
returns-then-k-eq1 c =
    let a = c.args in
    let f = form_of a.b.now a.at a.pairs in
    eq-eqb a.k 1 c.if-k-eq1.true ∙ sym (form_within a.b.now column_limit a.at a.pairs c.requires.pairs_value) ∙ one_within (arithmetic ge f)
    ∙ ap facts_within (child_one (arithmetic ge f ∷ []) ((arithmetic ge (below f) ∷ []) ∷ []) a.k c.if-k-eq1.true)

pub overflow_sub-i32_at : goal.overflow_sub-i32_at
overflow_sub-i32_at c = under_fits c.i32_at.result 2147483648 c.i32_at.ensures.1 (omega arith)

pub returns-else-k-eq1 : goal.returns-else-k-eq1
returns-else-k-eq1 c =
    let a = c.args in
    let b = a.b.now in
    let f = form_of b a.at a.pairs in
    let i = c.i32_at in
    let second : a.k ≡ 2 = omega (arith, c.requires.pairs_in_bounds, c.if-k-eq1.false) in
    c.in_limit.ensures
    ∙ below_within f _ (length_form b a.at a.pairs) (form_within b column_limit a.at a.pairs c.requires.pairs_value)
    (under_is i.result 2147483648 i.ensures.1 (omega arith) ∙ ap (λ (y : ℤ). (negsuc 0 *ℤ y) +ℤ negsuc 0) i.ensures.0)
    ∙ ap facts_within (child_two (arithmetic ge f ∷ []) (arithmetic ge (below f) ∷ []) [] a.k second)
