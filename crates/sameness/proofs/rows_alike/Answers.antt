use Prim.Native.Nat.{◌≤◌, ℕ}
use lib.Dec.{eqb}
use lib.IntN.{pos, ℤ}
use lib.ListN.{get_or, length}
use mathlib.Core.List.{List}
use mathlib.Core.Path.{◌∙◌, ◌≡◌, ap₂, subst, sym}
use Rattle.calculus.specs.Facts.{literal}
use Rattle.calculus.specs.Strings.{eq_string}
use Rattle.format.specs.Places.{literals_from, skip}
use Rattle.question.specs.Posed.{asked}
use Rattle.rows.specs.Rows.{fact_of, index}
use Rattle.rows.specs.Work.{tag_of}
use Rattle.sameness.proofs.Facts.{alike_apart, alike_firsts, alike_forms, alike_literals, alike_variables, literal_of}
use Rattle.sameness.specs.Ready.{literal_named}
use Rattle.sameness.proofs.rows_alike.Goals as goal
use Rattle.sameness.proofs.rows_alike.Goals.{After-literal_at-then-tag-eq-TAG_LITERAL, Else-tag-tag_of, Else-variable_at}

-- after the first test the two rows have one tag
module _ (c : Else-tag-tag_of) where
  abbrev row : List ℤ
  row = c.args.row.now

  abbrev other : List ℤ
  other = c.args.other.now

  -- it is the tag that was read, of either row
  tag_is : c.tag_of-tag.result ≡ tag_of (fact_of row)
  tag_is = c.tag_of-tag.ensures

  other_tag : c.tag_of-tag.result ≡ tag_of (fact_of other)
  other_tag = c.if-tag-tag_of.false ∙ c.tag_of.ensures

-- after the third test they have one first operand as well
firsts : (c : Else-variable_at) →
    index (get_or (row (goal.at.Else-variable_at c).Else-tag-tag_of) 1 (pos 0)) ≡ index (get_or (other (goal.at.Else-variable_at c).Else-tag-tag_of) 1 (pos 0))
firsts c = sym c.variable_at.ensures.value ∙ c.if-variable_at.false ∙ c.variable_at-2.ensures.value

-- the literals that were read are those that the two facts name
module _ (c : After-literal_at-then-tag-eq-TAG_LITERAL) where
  named : c.literal_at.result ≡ literal_named (fact_of (row (goal.at.After-literal_at-then-tag-eq-TAG_LITERAL c).Else-tag-tag_of))
  named =
      c.literal_at.ensures.value
      ∙ sym (literal_of (row (goal.at.After-literal_at-then-tag-eq-TAG_LITERAL c).Else-tag-tag_of) _
      (tag_is (goal.at.After-literal_at-then-tag-eq-TAG_LITERAL c).Else-tag-tag_of) c.if-tag-eq-TAG_LITERAL.true)

  other-named : c.literal_at-then-tag-eq-TAG_LITERAL.result
      ≡ literal_named (fact_of (other (goal.at.After-literal_at-then-tag-eq-TAG_LITERAL c).Else-tag-tag_of))
  other-named =
      c.literal_at-then-tag-eq-TAG_LITERAL.ensures.value
      ∙ sym (literal_of (other (goal.at.After-literal_at-then-tag-eq-TAG_LITERAL c).Else-tag-tag_of) _
      (other_tag (goal.at.After-literal_at-then-tag-eq-TAG_LITERAL c).Else-tag-tag_of) c.if-tag-eq-TAG_LITERAL.true)

pub returns-then-tag-tag_of : goal.returns-then-tag-tag_of
returns-then-tag-tag_of c = λ s t h g. sym (alike_apart _ _ _ _ (λ e. c.if-tag-tag_of.true (c.tag_of-tag.ensures ∙ e ∙ sym c.tag_of.ensures)))

pub returns-then-tag-le-TAG_NE : goal.returns-then-tag-le-TAG_NE
returns-then-tag-le-TAG_NE c =
    let here = (goal.at.returns-then-tag-le-TAG_NE c).Else-tag-tag_of in
    λ s t h g. c.same_from.ensures
    ∙ sym (alike_forms _ _ (row here) (other here) _
    (tag_is here) (other_tag here)
    c.if-tag-le-TAG_NE.true)

pub returns-then-variable_at : goal.returns-then-variable_at
returns-then-variable_at c =
    let here = (goal.at.returns-then-variable_at c).Else-tag-tag_of in
    λ s t h g. sym (alike_firsts _ _ (row here) (other here)
    _ (tag_is here) (other_tag here)
    c.if-tag-le-TAG_NE.false
    (λ e. c.if-variable_at.true (c.variable_at.ensures.value ∙ e ∙ sym c.variable_at-2.ensures.value)))

pub same_literals-requires : goal.same_literals-requires
same_literals-requires c =
    let b = c.args.b.now in
    let d = c.args.c.now in (
      subst (λ (l : ℕ). skip b l literals_from ≤ length b) (sym (named c)) c.requires.row_literal,
      subst (λ (l : ℕ). skip d l literals_from ≤ length d) (sym (other-named c)) c.requires.other_literal,
    )

pub returns-then-tag-eq-TAG_LITERAL : goal.returns-then-tag-eq-TAG_LITERAL
unfolding asked
returns-then-tag-eq-TAG_LITERAL c =
    let here = (goal.at.returns-then-tag-eq-TAG_LITERAL c).Else-tag-tag_of in
    let args = c.args in
    λ s t h g. c.same_literals.ensures s.literals t.literals
    (rw (named (goal.at.returns-then-tag-eq-TAG_LITERAL c).After-literal_at-then-tag-eq-TAG_LITERAL) h)
    (rw (other-named (goal.at.returns-then-tag-eq-TAG_LITERAL c).After-literal_at-then-tag-eq-TAG_LITERAL) g)
    ∙ ap₂ (λ (l k : ℕ). eq_string (literal (asked args.b.now s) l) (literal (asked args.c.now t) k)) c.literal_at.ensures.value
    c.literal_at-then-tag-eq-TAG_LITERAL.ensures.value
    ∙ sym (alike_literals _ _ (row here)
    (other here) _ (tag_is here)
    (other_tag here) c.if-tag-eq-TAG_LITERAL.true
    (firsts (goal.at.returns-then-tag-eq-TAG_LITERAL c).Else-variable_at))

pub returns : goal.returns
returns c =
    let here = (goal.at.returns c).Else-tag-tag_of in
    let if2 = c.if-tag-le-TAG_NE in
    λ s t h g. ap₂ eqb c.variable_at-3.ensures.value c.variable_at-4.ensures.value
    ∙ sym (alike_variables _ _ (row here) (other here) _
    (tag_is here) (other_tag here) if2.false c.if-tag-eq-TAG_LITERAL.false
    (firsts (goal.at.returns c).Else-variable_at))
