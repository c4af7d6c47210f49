use Prim.Native.Nat.{◌+◌, ◌-◌, ◌/◌, ◌≤◌, ℕ}
use lib.IntN.{pos}
use lib.ListN.{length}
use mathlib.Core.List.{◌∷◌}
use mathlib.Core.Path.{◌∙◌, ◌≡◌, ap, sym}
use native.Mathlib.Omega.{arith}
use Rattle.calculus.specs.Facts.{holds}
use Rattle.calculus.specs.LinearForms.{dot}
use Rattle.format.specs.Fields.{u16}
use Rattle.format.specs.Question.{form_of, relation_of}
use Rattle.format.specs.Records.{kind, next}
use Rattle.judging.proofs.Tested.{all_there, arithmetic_is, arithmetic_there, extended_formed, extended_is, extended_there, none_else}
use Rattle.judging.proofs.Tested.{string_formed, string_is, string_there}
use Rattle.judging.proofs.constraint_met.Goals as goal
use Rattle.judging.proofs.constraint_met.Goals.{After-u16_at, Start}

-- the record is all there
whole : (c : Start) → next c.args.b.now c.args.at ≤ length c.args.b.now
whole c =
    let a = c.args in
    all_there a.b.now a.v.now a.s a.places.now a.values.now c.requires.0 a.at c.requires.1

pub u32_at-requires : goal.u32_at-requires
u32_at-requires c = omega (arith, whole (goal.at.u32_at-requires c).Start)

pub overflow_add-at : goal.overflow_add-at
overflow_add-at c = omega (arith, whole (goal.at.overflow_add-at c).Start)

pub overflow_add-body : goal.overflow_add-body
overflow_add-body c = omega (arith, whole (goal.at.overflow_add-body c).Start)

pub u16_at-requires : goal.u16_at-requires
u16_at-requires c = omega (arith, whole (goal.at.u16_at-requires c).Start)

-- the kind that was tested is the record's
kind-is : (c : After-u16_at) →
    let args = c.args in
    c.u16_at.result ≡ kind args.b.now args.at
kind-is c = c.u16_at.ensures.0

pub string_met-requires : goal.string_met-requires
string_met-requires c =
    let a = c.args in
    let strings = sym (kind-is (goal.at.string_met-requires c).After-u16_at) ∙ c.in-3.is in (
      c.requires.0.texts,
      string_there a.b.now a.v.now a.s a.places.now a.values.now c.requires.0 a.at c.requires.1 strings,
      string_formed a.b.now a.v.now a.s a.places.now a.values.now c.requires.0 a.at c.requires.1 strings,
    )

pub returns-in-3 : goal.returns-in-3
returns-in-3 c =
    let a = c.args in
    c.string_met.ensures
    ∙ string_is a.b.now a.v.now a.s a.places.now a.values.now c.requires.0 a.at c.requires.1
    (sym (kind-is (goal.at.returns-in-3 c).After-u16_at) ∙ c.in-3.is)

pub arithmetic_met-requires : goal.arithmetic_met-requires
arithmetic_met-requires c =
    let a = c.args in
    rw c.u32_at.ensures.0 (arithmetic_there a.b.now a.v.now a.s a.places.now a.values.now c.requires.0 a.at
    c.requires.1 (sym (kind-is (goal.at.arithmetic_met-requires c).After-u16_at) ∙ c.in-4.is))

pub returns-in-4 : goal.returns-in-4
returns-in-4 c =
    let a = c.args in
    let b = a.b.now in
    c.arithmetic_met.ensures
    ∙ ap (λ (m : ℕ). holds (relation_of (u16 b (a.at + 6))) (dot (form_of b (a.at + 6 + 2) (m / 6 - 1)) (pos 1 ∷ a.values.now)))
    c.u32_at.ensures.0
    ∙ arithmetic_is b a.v.now a.s a.places.now a.values.now c.requires.0 a.at c.requires.1
    (sym (kind-is (goal.at.returns-in-4 c).After-u16_at) ∙ c.in-4.is)

pub extended_met-requires : goal.extended_met-requires
extended_met-requires c =
    let a = c.args in
    let eleven = sym (kind-is (goal.at.extended_met-requires c).After-u16_at) ∙ c.in-11.is in (
      c.requires.0,
      extended_there a.b.now a.v.now a.s a.places.now a.values.now c.requires.0 a.at c.requires.1 eleven,
      extended_formed a.b.now a.v.now a.s a.places.now a.values.now c.requires.0 a.at c.requires.1 eleven,
    )

pub returns-in-11 : goal.returns-in-11
returns-in-11 c =
    let a = c.args in
    c.extended_met.ensures
    ∙ extended_is a.b.now a.v.now a.s a.places.now a.values.now c.requires.0 a.at c.requires.1
    (sym (kind-is (goal.at.returns-in-11 c).After-u16_at) ∙ c.in-11.is)

pub returns-in_default : goal.returns-in_default
returns-in_default c =
    let a = c.args in
    let is = kind-is (goal.at.returns-in_default c).After-u16_at in
    absurd (none_else a.b.now a.v.now a.s a.places.now a.values.now c.requires.0 a.at c.requires.1
    (λ e. omega (arith, is, e)) (λ e. omega (arith, is, e)) (λ e. omega (arith, is, e)))
