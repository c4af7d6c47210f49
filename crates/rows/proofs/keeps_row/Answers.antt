use borrow.Author.Tests.{lt-ltb}
use lib.ListN.{drop}
use mathlib.Core.Path.{◌∙◌, ◌≡◌, ap, sym}
use mir.Facts.{to_z-of_z}
use mir.Syntax.{w64}
use mir.Val.{SFits}
use Rattle.calculus.specs.Facts.{Fact, arithmetic}
use Rattle.format.specs.Checking.{fact_within, keeps_fact}
use Rattle.format.specs.Question.{relation_of}
use Rattle.rows.proofs.Tags.{row_relation}
use Rattle.rows.proofs.Tested.{string_keeps}
use Rattle.rows.specs.Rows.{fact_of}
use Rattle.rows.proofs.keeps_row.Goals as goal
use Rattle.rows.proofs.keeps_row.Goals.{Else-tag-gt-TAG_NE}

-- the fact, where it is arithmetic
is : (c : Else-tag-gt-TAG_NE)
    → fact_of c.args.row.now ≡ arithmetic (relation_of c.tag_of-tag.result) (drop 1 c.args.row.now)
is c = row_relation c.args.row.now c.tag_of-tag.result c.tag_of-tag.ensures c.if-tag-gt-TAG_NE.false

pub returns-then-tag-gt-TAG_NE : goal.returns-then-tag-gt-TAG_NE
returns-then-tag-gt-TAG_NE c =
    let h = c.if-tag-gt-TAG_NE.true in
    lt-ltb 2 c.tag_of-tag.result h ∙ sym (string_keeps c.args.model.now (fact_of c.args.row.now) (rw c.tag_of-tag.ensures at h))

pub row_value-requires-clause-row_value : goal.row_value-requires-clause-row_value
row_value-requires-clause-row_value c = sym (ap fact_within (is c)) ∙ c.requires.row_value

pub returns-else-tag-gt-TAG_NE : goal.returns-else-tag-gt-TAG_NE
returns-else-tag-gt-TAG_NE c =
    let f : SFits w64 c.row_value.result = record { sfits = c.row_value.type_inv } in
    (rw (to_z-of_z f, c.row_value.ensures) at c.relation_holds.ensures)
    ∙ sym (ap (λ (f : Fact). keeps_fact c.args.model.now f) (is (goal.at.returns-else-tag-gt-TAG_NE c).Else-tag-gt-TAG_NE))
