use lib.IntN.{pos, ℤ}
use mathlib.Core.List.{List, ◌∷◌}
use mathlib.Core.Path.{◌∙◌, ◌≡◌, ap, ap₂}
use mir.Facts.{to_z-of_z}
use mir.Syntax.{w64}
use mir.Val.{SFits, of_z, to_z}
use Rattle.format.specs.Fields.{i32}
use Rattle.format.specs.Question.{form_of}
use Rattle.rows.proofs.Tags.{relation_fact}
use Rattle.rows.specs.Rows.{fact_of}
use Rattle.constraints.proofs.Filling.{scale_one}
use Rattle.constraints.proofs.fill_form.Goals as goal

pub returns : goal.returns
returns c =
    let a = c.args in
    let i = c.i32_at-constant in
    let f : SFits w64 i.result = record { sfits = i.type_inv } in
    let e : to_z w64 (of_z w64 i.result) ≡ i32 a.b.now a.at = to_z-of_z f ∙ i.ensures.0 in
    ap fact_of (c.fill_signed.ensures ∙ ap₂ (λ (x : ℤ) (l : List ℤ). pos a.relation ∷ x ∷ l) e (scale_one _))
    ∙ relation_fact a.relation (form_of a.b.now a.at a.pairs) c.requires.relation_bound.0
