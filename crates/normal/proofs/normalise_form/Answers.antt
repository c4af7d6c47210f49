use lib.IntN.{pos, ℤ}
use lib.ListN.{drop, get_or}
use mathlib.Core.Bool.{true}
use mathlib.Core.List.{List, ◌∷◌}
use mathlib.Core.Path.{◌∙◌, ◌≡◌, ap, sym}
use Rattle.calculus.specs.Limits.{number_limit}
use Rattle.calculus.specs.NormalForms.{with_positive_lead}
use Rattle.format.specs.Fields.{all_within}
use Rattle.normal.proofs.Laws.{normal_plain, normal_turned, reduced_within, row_within}
use Rattle.rows.specs.Rows.{fact_of}
use Rattle.normal.proofs.normalise_form.Goals as goal
use Rattle.normal.proofs.normalise_form.Goals.{Start}

form_small : (c : Start) → all_within number_limit (drop 1 c.args.row.now) ≡ true
form_small c = sym (row_within c.args.row.now c.args.tag c.requires.1 c.requires.2) ∙ c.requires.3

pub reduce-requires : goal.reduce-requires
reduce-requires c = (c.requires.0, form_small (goal.at.reduce-requires c).Start)

pub turn-requires : goal.turn-requires
turn-requires c =
    let reduced-row = c.reduce in (
      reduced-row.auto.row ∙ c.requires.0,
      ap (λ (row : List ℤ). all_within number_limit (drop 1 row)) reduced-row.ensures ∙ reduced_within (drop 1 c.args.row.now) (form_small (goal.at.turn-requires c).Start),
    )

pub returns-then-tag-ne-TAG_GE : goal.returns-then-tag-ne-TAG_GE
returns-then-tag-ne-TAG_GE c =
    let reduce = c.reduce in
    ap fact_of
    (c.turn.ensures
    ∙ ap (λ (row : List ℤ). get_or row 0 (pos 0) ∷ with_positive_lead (drop 1 row)) reduce.ensures)
    ∙ normal_turned c.args.row.now c.args.tag c.requires.1 c.requires.2 c.if-tag-ne-TAG_GE.true

pub returns-else-tag-ne-TAG_GE : goal.returns-else-tag-ne-TAG_GE
returns-else-tag-ne-TAG_GE c =
    ap fact_of c.reduce.ensures ∙ normal_plain c.args.row.now c.args.tag c.requires.1 c.requires.2 c.if-tag-ne-TAG_GE.false
