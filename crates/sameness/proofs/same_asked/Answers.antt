use mathlib.Core.Bool.{Bool, ◌&&◌}
use mathlib.Core.Path.{◌∙◌, ◌≡◌, refl, sym}
use Rattle.calculus.specs.NormalForms.{agrees_by, same_by}
use Rattle.format.specs.Sameness.{agreement}
use Rattle.question.specs.Posed.{asked, extended_asked}
use Rattle.sameness.proofs.Occurrences.{normal_facts}
use Rattle.sameness.proofs.Outcomes.{compared, ready_agree}
use Rattle.sameness.proofs.same_asked.Goals as goal
use Rattle.sameness.proofs.same_asked.Goals.{After-rows_agree, then-not-same_heads-via-then-not-same_heads}
use Rattle.sameness.proofs.same_asked.Goals.{then-not-same_heads-via-else-not-same_heads+then-not-records_agree}
use Rattle.sameness.proofs.same_asked.Goals.{then-not-same_heads-via-else-not-same_heads+else-not-records_agree+then-not-records_agree-2}

pub returns-then-not-same_heads : goal.returns-then-not-same_heads
returns-then-not-same_heads c =
    let a = c.args in
    sym (elim c.then-not-same_heads.branch [
      | then-not-same_heads-via-then-not-same_heads w ↦ compared a.b.now a.s a.c.now a.t (w.if-not-same_heads.ensures _ _) refl refl refl refl
      | then-not-same_heads-via-else-not-same_heads+then-not-records_agree w ↦
          compared a.b.now a.s a.c.now a.t (w.if-not-same_heads.ensures _ _) (w.if-not-records_agree.ensures _ _) refl refl refl
      | then-not-same_heads-via-else-not-same_heads+else-not-records_agree+then-not-records_agree-2 w ↦
          compared a.b.now a.s a.c.now a.t (w.if-not-same_heads.ensures _ _) (w.if-not-records_agree.ensures _ _) (w.if-not-records_agree-2.ensures _ _) refl refl
    ])

-- where heads and extended constraints agree, the facts decide
facts-decide : {f g : Bool} (c : After-rows_agree) →
    let a = c.args in
    let u = asked a.b.now a.s in
    let v = asked a.c.now a.t in
    f ≡ agrees_by agreement u (normal_facts u) v (normal_facts v) → g ≡ agrees_by agreement v (normal_facts v) u (normal_facts u)
    → (f && g) ≡ same_by agreement u (extended_asked a.b.now a.s) v (extended_asked a.c.now a.t)
facts-decide c e d =
    let a = c.args in
    sym (compared a.b.now a.s a.c.now a.t (c.if-not-same_heads.ensures _ _)
    (c.if-not-records_agree.ensures _ _)
    (c.if-not-records_agree-2.ensures _ _) e d)

pub returns-then-rows_agree : goal.returns-then-rows_agree
returns-then-rows_agree c =
    let mine = c.prepare.ensures in
    let theirs = c.prepare-2.ensures in
    facts-decide (goal.at.returns-then-rows_agree c).After-rows_agree
    (c.if-rows_agree.ensures ∙ ready_agree mine theirs)
    (c.rows_agree-then-rows_agree.ensures ∙ ready_agree theirs mine)

pub returns-else-rows_agree : goal.returns-else-rows_agree
returns-else-rows_agree c =
    c.if-rows_agree.false
    ∙ facts-decide (goal.at.returns-else-rows_agree c).After-rows_agree (c.if-rows_agree.ensures ∙ ready_agree c.prepare.ensures c.prepare-2.ensures) refl
