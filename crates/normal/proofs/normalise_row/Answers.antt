use lib.IntN.{ℤ}
use mathlib.Core.List.{List}
use mathlib.Core.Path.{◌∙◌, ◌≡◌, ap, sym}
use native.Mathlib.Omega.{arith}
use Rattle.normal.proofs.Laws.{literal_normal, row_alone}
use Rattle.rows.specs.Rows.{fact_of}
use Rattle.rows.specs.Work.{tag_of}
use Rattle.normal.proofs.normalise_row.Goals as goal
use Rattle.normal.proofs.normalise_row.Goals.{After-tag_of-tag}

tag-is : (c : After-tag_of-tag) → c.tag_of-tag.result ≡ tag_of (fact_of c.args.row.now)
tag-is c = c.tag_of-tag.ensures ∙ ap (λ (row : List ℤ). tag_of (fact_of row)) (row_alone c.args.row.now c.row_at.result.now c.requires.0 c.row_at.ensures)

pub normalise_form-requires : goal.normalise_form-requires
normalise_form-requires c = (c.requires.0, tag-is (goal.at.normalise_form-requires c).After-tag_of-tag, c.if-tag-le-TAG_NE.true, c.requires.1)

pub order_operands-requires : goal.order_operands-requires
order_operands-requires c = (c.requires.0, tag-is (goal.at.order_operands-requires c).After-tag_of-tag, omega arith, omega arith)

pub returns-else-tag-lt-TAG_LITERAL : goal.returns-else-tag-lt-TAG_LITERAL
returns-else-tag-lt-TAG_LITERAL c =
    let e = tag-is (goal.at.returns-else-tag-lt-TAG_LITERAL c).After-tag_of-tag in
    sym (literal_normal (fact_of c.args.row.now) (omega (arith, e)))
