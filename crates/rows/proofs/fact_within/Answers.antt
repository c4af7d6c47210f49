use borrow.Author.Tests.{lt-ltb}
use mathlib.Core.Path.{◌∙◌, ap, sym}
use Rattle.format.specs.Checking.{fact_within}
use Rattle.rows.proofs.Tags.{row_relation}
use Rattle.rows.proofs.Tested.{string_within}
use Rattle.rows.specs.Rows.{fact_of}
use Rattle.rows.proofs.fact_within.Goals as goal

pub returns-then-tag_of-gt-TAG_NE : goal.returns-then-tag_of-gt-TAG_NE
returns-then-tag_of-gt-TAG_NE c =
    let h = c.if-tag_of-gt-TAG_NE.true in
    lt-ltb 2 c.tag_of.result h ∙ sym (string_within (fact_of c.args.row.now) (rw c.tag_of.ensures at h))

pub returns-else-tag_of-gt-TAG_NE : goal.returns-else-tag_of-gt-TAG_NE
returns-else-tag_of-gt-TAG_NE c =
    c.form_within.ensures
    ∙ sym (ap fact_within (row_relation c.args.row.now c.tag_of.result c.tag_of.ensures c.if-tag_of-gt-TAG_NE.false))
