use Prim.Native.Nat.{◌<◌, ◌≤◌, ℕ}
use mathlib.Core.Path.{◌∙◌, ap, subst, sym}
use Rattle.cores.proofs.Growing.{both_unions, unions_equated, unions_kept, unions_separated}
use Rattle.cores.specs.declared.Words.{Words}
use Rattle.rows.specs.Rows.{fact_of}
use Rattle.cores.proofs.with_fact.Goals as goal

pub returns-then-tag-le-TAG_NE : goal.returns-then-tag-le-TAG_NE
returns-then-tag-le-TAG_NE c r s e d =
    let a = c.args in
    unions_kept r (fact_of a.row.now) s a.unions a.set e d (subst (λ (n : ℕ). n ≤ 2) c.tag_of-tag.ensures c.if-tag-le-TAG_NE.true)

pub returns-then-tag-eq-TAG_NOT_SAME : goal.returns-then-tag-eq-TAG_NOT_SAME
returns-then-tag-eq-TAG_NOT_SAME c r s e d =
    let a = c.args in
    ap (both_unions a.unions.equates) c.bitor.ensures
    ∙ unions_separated r (fact_of a.row.now) s a.unions a.set e d (sym c.tag_of-tag.ensures ∙ c.if-tag-eq-TAG_NOT_SAME.true)

pub returns : goal.returns
returns c r s e d =
    let a = c.args in
    ap (λ (x : Words). both_unions x a.unions.separates) c.bitor-2.ensures
    ∙ unions_equated r (fact_of a.row.now) s a.unions a.set e d
    (subst (λ (n : ℕ). 2 < n) c.tag_of-tag.ensures c.if-tag-le-TAG_NE.false)
    (λ h. c.if-tag-eq-TAG_NOT_SAME.false (c.tag_of-tag.ensures ∙ h))
