use mathlib.Core.Bool.{true≢false}
use mathlib.Core.Path.{◌∙◌, sym}
use Rattle.rows.proofs.Tested.{joinable_within, joined_tests}
use Rattle.rows.proofs.joins.Goals as goal
use Rattle.rows.proofs.joins.Goals.{then-joinable, else-joinable}

pub negates-requires : goal.negates-requires
negates-requires c =
    elim c.if-joinable.branch [
      | then-joinable w ↦ sym (joinable_within c.args.row.now (sym w.if-joinable.ensures)) ∙ c.requires
      | else-joinable w ↦ absurd (true≢false (sym c.if-joinable-2.true ∙ w.value-is ∙ w.if-joinable.false))
    ]

pub returns-then-joinable-2 : goal.returns-then-joinable-2
returns-then-joinable-2 c =
    let e = joined_tests c.args.row.now c.args.other.now in
    elim c.if-joinable.branch [
      | then-joinable w ↦ c.negates.ensures ∙ sym (e ∙ rw (sym w.if-joinable.ensures, sym w.joinable-then-joinable.ensures ∙ sym w.value-is ∙ c.if-joinable-2.true))
      | else-joinable w ↦ absurd (true≢false (sym c.if-joinable-2.true ∙ w.value-is ∙ w.if-joinable.false))
    ]
