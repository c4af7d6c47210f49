-- A constraint's record says what is asked of the code that tests it, and what it has tested.
use Prim.Native.Nat.{ℕ, ◌+◌, ◌-◌, ◌/◌, ◌≤◌}
use native.Mathlib.Omega.{arith}
use mathlib.Core.Path.{◌≡◌, refl, sym, ◌∙◌, ap, subst}
use mathlib.Core.Logic.{inl, inr}
use mathlib.Core.Bool.{true, cond}
use mathlib.Core.List.{List, ◌∷◌}
use lib.ListN.{length}
use lib.IntN.{ℤ, pos}
use borrow.Author.Tests.{eq-eqb, ne_eqb}
use Rattle.calculus.specs.LinearForms.{dot, value_in}
use Rattle.calculus.specs.Facts.{Question, Fact, arithmetic, holds}
use Rattle.calculus.specs.Meaning.{Assignment, columns}
use Rattle.format.specs.Fields.{u16}
use Rattle.calculus.specs.Extended.{meets_extended, basic, extended}
use Rattle.format.specs.Records.{size, kind, next}
use Rattle.format.specs.Question.{string_kind, arithmetic_kind, extended_kind, string_fact, string_fault, form_range}
use Rattle.format.specs.Question.{form_of, relation_of, extended_fault, extended_of, fact_fault, body_fact}
use Rattle.format.specs.Places.{extended_at, constraint_at}
use Rattle.format.specs.Judging.{meets, meets_constraint}
use Rattle.format.proofs.RecordFaults.{StringConstraint, ArithmeticConstraint, extended_constraint_formed}
use Rattle.question.specs.declared.Progress.{Progress}
use Rattle.format.specs.Standing.{FactAt, ExtendedAt, ConstraintAt}
use Rattle.question.specs.Posed.{asked}
use Rattle.question.proofs.Constraints.{of_strings, of_columns, of_none}
use Rattle.assignment.specs.Form.{columns_at}
use Rattle.assignment.proofs.Columns.{length_columns}
use Rattle.judging.specs.Ready.{values_of, FormIn, Judgeable}

-- the columns of the answer are the values that were found
pub columns_are : (b v : List ℕ) (s : Progress) → columns (values_of b v s) ≡ columns_at v s.p s.q
unfolding columns_at asked
columns_are b v s = refl

module _ (b v : List ℕ) (s : Progress) (places : List ℕ) (values : List ℤ) (r : Judgeable b v s places values) (at : ℕ)
    (d : ConstraintAt b s.p s.q s.literals at) where
  abbrev u : Question
  u = asked b s

  abbrev a : Assignment
  a = values_of b v s

  abbrev m : ℕ
  m = size b at

  abbrev constraint : Fact
  constraint = body_fact b (kind b at) (at + 6) m

  -- ---- which of the two

  pub all_there : next b at ≤ length b
  all_there = go d
    where
      go : ConstraintAt b s.p s.q s.literals at → next b at ≤ length b
      go (inl c) = c.whole
      go (inr c) = c.whole

  -- not of kind 11
  constraint_there : (kind b at ≡ extended_kind → ⊥) → FactAt b s.p s.q s.literals at
  constraint_there x = go d
    where
      go : ConstraintAt b s.p s.q s.literals at → FactAt b s.p s.q s.literals at
      go (inl c) = c
      go (inr c) = absurd (x c.of_kind)

  basic_is : (kind b at ≡ extended_kind → ⊥) → meets u a constraint ≡ meets_constraint u a (constraint_at b at)
  basic_is x = sym (ap (λ t. meets_constraint u a (cond t (extended (extended_at b at)) (basic constraint))) (ne_eqb (kind b at) extended_kind x))

  -- no other kind comes here
  pub none_else : (kind b at ≡ string_kind → ⊥) → (kind b at ≡ arithmetic_kind → ⊥) → (kind b at ≡ extended_kind → ⊥) → ⊥
  none_else x y z = of_none b s.p s.literals (s.q + (s.p + s.p)) (kind b at) (at + 6) m (constraint_there z).formed x y

  -- ---- a string constraint

  module _ (e : kind b at ≡ string_kind) where
    other : kind b at ≡ extended_kind → ⊥
    other z = omega arith

    c : FactAt b s.p s.q s.literals at
    c = constraint_there other

    strings : StringConstraint s.p s.literals m (u16 b (at + 6)) (u16 b (at + 6 + 2)) (u16 b (at + 6 + 4))
        × (constraint ≡ string_fact (u16 b (at + 6)) (u16 b (at + 6 + 2)) (u16 b (at + 6 + 4)))
    strings = of_strings b s.p s.literals (s.q + (s.p + s.p)) (kind b at) (at + 6) m c.formed e

    pub string_there : at + 6 + 6 ≤ length b
    string_there = omega (arith, c.whole, strings.0.six)

    pub string_formed : string_fault b s.p s.literals (at + 6) 6 ≡ 0
    unfolding fact_fault
    string_formed = subst (λ (k : ℕ). string_fault b s.p s.literals (at + 6) k ≡ 0) strings.0.six (rw e at c.formed)

    pub string_is : meets u a (string_fact (u16 b (at + 6)) (u16 b (at + 6 + 2)) (u16 b (at + 6 + 4))) ≡ meets_constraint u a (constraint_at b at)
    string_is = ap (meets u a) (sym strings.1) ∙ basic_is other

  -- ---- an arithmetic constraint

  length_values : length values ≡ s.q + (s.p + s.p)
  length_values = ap length r.columns ∙ length_columns v s.p s.q

  module _ (e : kind b at ≡ arithmetic_kind) where
    not_extended : kind b at ≡ extended_kind → ⊥
    not_extended z = omega arith

    constraint_stands : FactAt b s.p s.q s.literals at
    constraint_stands = constraint_there not_extended

    form : ArithmeticConstraint b (s.q + (s.p + s.p)) (at + 6) m
        × (constraint ≡ arithmetic (relation_of (u16 b (at + 6))) (form_of b (at + 6 + 2) (m / 6 - 1)))
    form = of_columns b s.p s.literals (s.q + (s.p + s.p)) (kind b at) (at + 6) m constraint_stands.formed e

    pub arithmetic_there : (6 ≤ m) × FormIn b (at + 6 + 2) (m / 6 - 1) values
    arithmetic_there =
        let g = form.0 in
        let stands = r.texts.posed.stands in (
          g.at_least,
          record {
            few = omega (arith, g.few_pairs);
            there = omega (arith, all_there, g.at_least, g.pairs_whole);
            few_columns = omega (arith, length_values, stands.few_strings, stands.few_integers);
            is_in_range = subst (λ (k : ℕ). form_range b k (at + 6 + 2) (m / 6 - 1) ≡ true) (sym length_values) g.is_in_range;
            small = r.small;
          },
        )

    pub arithmetic_is : holds (relation_of (u16 b (at + 6))) (dot (form_of b (at + 6 + 2) (m / 6 - 1)) (pos 1 ∷ values)) ≡ meets_constraint u a (constraint_at b at)
    arithmetic_is =
        ap (λ (vs : List ℤ). holds (relation_of (u16 b (at + 6))) (value_in vs (form_of b (at + 6 + 2) (m / 6 - 1)))) (r.columns ∙ sym (columns_are b v s))
        ∙ ap (meets u a) (sym form.1)
        ∙ basic_is not_extended

  -- ---- an extended constraint

  module _ (e : kind b at ≡ extended_kind) where
    extended_stands : ExtendedAt b s.p s.q at
    extended_stands = go d
      where
        go : ConstraintAt b s.p s.q s.literals at → ExtendedAt b s.p s.q at
        go (inl c) =
            absurd (of_none b s.p s.literals (s.q + (s.p + s.p)) (kind b at) (at + 6) m c.formed (λ z. omega (arith, e, z)) (λ z. omega (arith, e, z)))
        go (inr c) = c

    six : m ≡ 6
    six = (extended_constraint_formed b s.p s.q (at + 6) m extended_stands.formed).six

    pub extended_there : at + 6 + 6 ≤ length b
    extended_there = omega (arith, all_there, six)

    pub extended_formed : extended_fault b s.p s.q (at + 6) 6 ≡ 0
    extended_formed = subst (λ k. extended_fault b s.p s.q (at + 6) k ≡ 0) six extended_stands.formed

    pub extended_is : meets_extended a (extended_of b (at + 6)) ≡ meets_constraint u a (constraint_at b at)
    extended_is = sym (ap (λ t. meets_constraint u a (cond t (extended (extended_at b at)) (basic constraint))) (eq-eqb (kind b at) extended_kind e))
