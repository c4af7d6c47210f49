use Prim.Native.Nat.{ℕ}
use borrow.Author.Tests.{ne_eqb}
use mathlib.Core.Path.{◌∙◌, ap₂, sym}
use Rattle.calculus.specs.Chains.{var_node}
use Rattle.calculus.specs.Classes.{same_class}
use Rattle.classes.proofs.Laws.{row_sides, row_no_sides}
use Rattle.classes.proofs.row_sides_meet.Goals as goal

pub returns-then-tag_of-eq-TAG_NOT_SAME : goal.returns-then-tag_of-eq-TAG_NOT_SAME
returns-then-tag_of-eq-TAG_NOT_SAME c =
    let k = c.tag_of in
    c.one_class.ensures
    ∙ ap₂ (λ (a b : ℕ). same_class c.args.labels.now (var_node a) (var_node b)) c.variable_at.ensures.value
    c.variable_at-then-tag_of-eq-TAG_NOT_SAME.ensures.value
    ∙ sym (row_sides c.args.row.now c.args.labels.now k.result k.ensures c.if-tag_of-eq-TAG_NOT_SAME.true)

pub returns-else-tag_of-eq-TAG_NOT_SAME : goal.returns-else-tag_of-eq-TAG_NOT_SAME
returns-else-tag_of-eq-TAG_NOT_SAME c =
    let k = c.tag_of in
    ne_eqb k.result 4 c.if-tag_of-eq-TAG_NOT_SAME.false ∙ sym (row_no_sides c.args.row.now c.args.labels.now k.result k.ensures c.if-tag_of-eq-TAG_NOT_SAME.false)
