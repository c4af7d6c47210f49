use lib.IntN.{pos, ℤ}
use lib.ListN.{drop, get_or}
use mathlib.Core.List.{List, ◌∷◌}
use mathlib.Core.Path.{◌∙◌, ap, refl, sym}
use Rattle.integers.proofs.Machine.{negative, not_negative}
use Rattle.normal.proofs.Laws.{lead_kept, lead_turned}
use Rattle.sums.proofs.Division.{tag_first}
use Rattle.normal.proofs.turn.Goals as goal

pub returns-then-leading-lt0 : goal.returns-then-leading-lt0
returns-then-leading-lt0 c =
    let w =
    negative c.leading.result (record { sfits = c.leading.type_inv })
    c.if-leading-lt0.true in
    c.negate_form.ensures
    ∙ ap (λ (e : List ℤ). get_or c.args.row.now 0 (pos 0) ∷ e)
    (sym (lead_turned (drop 1 c.args.row.now) w.0 (sym c.leading.ensures ∙ w.3)))

pub returns-else-leading-lt0 : goal.returns-else-leading-lt0
returns-else-leading-lt0 c =
    let row = c.args.row.now in
    let w = not_negative c.leading.result (record { sfits = c.leading.type_inv }) c.if-leading-lt0.false in
    tag_first row _ c.requires.0 refl
    ∙ ap (λ (e : List ℤ). get_or row 0 (pos 0) ∷ e) (sym (lead_kept (drop 1 row) w.0 (sym c.leading.ensures ∙ w.3)))
