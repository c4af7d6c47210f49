use Prim.Native.Nat.{◌+◌, ◌-◌, ◌/◌, ◌<◌, ◌≤◌, ℕ}
use mathlib.Core.List.{[], ◌∷◌, ◌++◌}
use mathlib.Core.Path.{◌∙◌, ◌≡◌, ap, ap₂, subst, sym}
use native.Mathlib.Omega.{arith}
use Rattle.calculus.specs.Facts.{Fact, arithmetic}
use Rattle.calculus.specs.Limits.{variable_limit, literal_limit, column_limit}
use Rattle.constraints.proofs.Ranges.{form_rises, second_small}
use Rattle.question.proofs.Constraints.{of_strings, of_columns, of_none, six_bytes}
use Rattle.format.specs.Fields.{u16}
use Rattle.format.specs.Question.{body_fact, form_of, relation_of, string_fact}
use Rattle.format.proofs.RecordFaults.{StringConstraint, ArithmeticConstraint}
use Rattle.rows.specs.Rows.{branch_of}
use Rattle.constraints.proofs.put_constraint.Goals as goal
use Rattle.constraints.proofs.put_constraint.Goals.{In-3, In-4}

-- the body's fields and the fact that it states
text : (c : In-3) →
    let s = c.args in
    let b = s.b.now in
    StringConstraint variable_limit literal_limit s.size (u16 b s.at) (u16 b (s.at + 2)) (u16 b (s.at + 4))
    × (body_fact b s.kind s.at s.size ≡ string_fact (u16 b s.at) (u16 b (s.at + 2)) (u16 b (s.at + 4)))
text c = of_strings c.args.b.now _ _ _ c.args.kind c.args.at c.args.size c.requires.size_in_bounds.1 c.in-3.is

form : (c : In-4) →
    let s = c.args in
    let b = s.b.now in
    ArithmeticConstraint b column_limit s.at s.size
    × (body_fact b s.kind s.at s.size ≡ arithmetic (relation_of (u16 b s.at)) (form_of b (s.at + 2) (s.size / 6 - 1)))
form c = of_columns c.args.b.now _ _ _ c.args.kind c.args.at c.args.size c.requires.size_in_bounds.1 c.in-4.is

pub u16_at-relation-requires : goal.u16_at-relation-requires
u16_at-relation-requires c =
    let h = six_bytes c.args.b.now _ _ _ c.args.kind c.args.at c.args.size c.requires.size_in_bounds.1 in
    omega arith

pub u16_at-x-requires : goal.u16_at-x-requires
u16_at-x-requires c = let n = (text c).0.six in omega arith

pub u16_at-y-requires : goal.u16_at-y-requires
u16_at-y-requires c = let n = (text (goal.at.u16_at-y-requires c).In-3).0.six in omega arith

pub put_string-requires : goal.put_string-requires
put_string-requires c =
    let f = (text (goal.at.put_string-requires c).In-3).0 in
    record {
      k_lt_fact_limit = c.requires.k_lt_fact_limit;
      relation_bound = (
        subst (λ (k : ℕ). k ≤ 2) (sym c.u16_at-relation.ensures.0) f.relation,
        subst (λ (k : ℕ). k < 16) (sym c.u16_at-x.ensures.0) f.first,
        subst (λ (k : ℕ). k < 16) (sym c.u16_at-y.ensures.0) (second_small f),
      );
    }

pub returns-in-3 : goal.returns-in-3
returns-in-3 c =
    let b = c.args.b.now in
    let at' = c.args.at in
    let relation = c.u16_at-relation in
    let second = c.u16_at-y in
    let x : c.u16_at-x.result ≡ u16 b (at' + 2) = c.u16_at-x.ensures.0 in
    c.put_string.ensures
    ∙ ap (λ (f : Fact). branch_of c.args.work.now c.args.k ++ (f ∷ []))
    (ap₂ (λ (m n : ℕ). string_fact m n second.result) relation.ensures.0 x
    ∙ ap (string_fact (u16 b at') (u16 b (at' + 2))) second.ensures.0
    ∙ sym (text (goal.at.returns-in-3 c).In-3).1)

pub overflow_sub-size : goal.overflow_sub-size
overflow_sub-size c = let f = (form (goal.at.overflow_sub-size c).In-4).0 in let k = f.at_least in omega arith

pub put_form-requires : goal.put_form-requires
put_form-requires c =
    let f = (form (goal.at.put_form-requires c).In-4).0 in
    let rises = form_rises c.args.b.now column_limit (c.args.at + 2) (c.args.size / 6 - 1) (omega arith) f.is_in_range in
    record {
      k_lt_fact_limit = c.requires.k_lt_fact_limit;
      relation_bound = (subst (λ (k : ℕ). k ≤ 2) (sym c.u16_at-relation.ensures.0) f.relation, omega (arith, f.at_least, f.pairs_whole));
      pairs_value = rises;
    }

pub returns-in-4 : goal.returns-in-4
returns-in-4 c =
    let b = c.args.b.now in
    let at' = c.args.at in
    c.put_form.ensures
    ∙ ap (λ (f : Fact). branch_of c.args.work.now c.args.k ++ (f ∷ []))
    (ap (λ (r : ℕ). arithmetic (relation_of r) (form_of b (at' + 2) (c.args.size / 6 - 1))) c.u16_at-relation.ensures.0
    ∙ sym (form (goal.at.returns-in-4 c).In-4).1)

pub returns-in_default : goal.returns-in_default
returns-in_default c =
    absurd (of_none c.args.b.now _ _ _ c.args.kind c.args.at c.args.size c.requires.size_in_bounds.1 c.in_default.in_default-own.rest.0.1 c.in_default.in_default-own.rest.1)
