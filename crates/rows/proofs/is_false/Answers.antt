use Rattle.std.proofs.Common.{rules, tests}
use borrow.Author.Tests.{lt-leb}
use Prim.Native.Nat.{◌≤◌}
use lib.IntN.{pos}
use lib.ListN.{drop, get_or}
use mathlib.Core.Bool.{Bool, ◌&&◌, and-false, and-true, not, true, false, true≢false}
use mathlib.Core.Path.{◌∙◌, ◌≡◌, ap, sym}
use mir.Facts.{to_z-of_z}
use mir.Syntax.{w64}
use mir.Val.{SFits}
use Rattle.calculus.specs.Facts.{holds}
use Rattle.calculus.specs.LinearForms.{all_zero}
use Rattle.calculus.specs.Rules.{is_false}
use Rattle.format.specs.Question.{relation_of}
use Rattle.rows.proofs.Tags.{row_relation}
use Rattle.rows.proofs.Tested.{falsum_row, string_falsum}
use Rattle.rows.specs.Rows.{fact_of}
use Rattle.rows.proofs.is_false.Goals as goal
use Rattle.rows.proofs.is_false.Goals.{After-tag_of-tag, then-tag-le-TAG_NE, else-tag-le-TAG_NE}

-- the fact, where it is arithmetic
falsum-is : (c : After-tag_of-tag) → c.tag_of-tag.result ≤ 2
    → is_false (fact_of c.args.row.now)
    ≡ (all_zero (drop 2 c.args.row.now) && not (holds (relation_of c.tag_of-tag.result) (get_or c.args.row.now 1 (pos 0))))
falsum-is c h =
    let row = c.args.row.now in
    ap is_false (row_relation row c.tag_of-tag.result c.tag_of-tag.ensures h) ∙ falsum_row (relation_of c.tag_of-tag.result) row (search rules)

pub returns-then-not-relation_holds : goal.returns-then-not-relation_holds
returns-then-not-relation_holds c = elim c.if-tag-le-TAG_NE.branch [
  | then-tag-le-TAG_NE w ↦
      let row = c.args.row.now in
      let f : SFits w64 (get_or row 1 (pos 0)) = search (rules, tests) in
      let held = rw (to_z-of_z f) at w.relation_holds.ensures in
      let e = falsum-is (goal.at.returns-then-not-relation_holds c).After-tag_of-tag w.if-tag-le-TAG_NE.true in
      let v : not (holds (relation_of c.tag_of-tag.result) (get_or row 1 (pos 0))) ≡ true = ap not (sym held) ∙ sym w.value-is ∙ c.if-not-relation_holds.true in
      c.constant.ensures ∙ sym (e ∙ ap (λ (t : Bool). all_zero (drop 2 row) && t) v ∙ and-true (all_zero (drop 2 row)))
  | else-tag-le-TAG_NE w ↦ absurd (true≢false (sym c.if-not-relation_holds.true ∙ w.value-is ∙ lt-leb _ _ w.if-tag-le-TAG_NE.false))
]

pub returns-else-not-relation_holds : goal.returns-else-not-relation_holds
returns-else-not-relation_holds c = elim c.if-tag-le-TAG_NE.branch [
  | then-tag-le-TAG_NE w ↦
      let row = c.args.row.now in
      let f : SFits w64 (get_or row 1 (pos 0)) = search (rules, tests) in
      let held = rw (to_z-of_z f) at w.relation_holds.ensures in
      let e = falsum-is (goal.at.returns-else-not-relation_holds c).After-tag_of-tag w.if-tag-le-TAG_NE.true in
      let v : not (holds (relation_of c.tag_of-tag.result) (get_or row 1 (pos 0))) ≡ false = ap not (sym held) ∙ sym w.value-is ∙ c.if-not-relation_holds.false in
      c.if-not-relation_holds.false ∙ sym (e ∙ ap (λ (t : Bool). all_zero (drop 2 row) && t) v ∙ and-false (all_zero (drop 2 row)))
  | else-tag-le-TAG_NE w ↦
      c.if-not-relation_holds.false ∙ sym (string_falsum (fact_of c.args.row.now) (rw c.tag_of-tag.ensures at w.if-tag-le-TAG_NE.false))
]
