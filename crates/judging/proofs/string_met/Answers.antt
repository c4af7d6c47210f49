use Prim.Native.Nat.{◌+◌, ◌≤◌, ℕ}
use lib.ListN.{get_or}
use mathlib.Core.Bool.{not}
use mathlib.Core.List.{List, [], ◌∷◌}
use mathlib.Core.Path.{◌∙◌, ◌≡◌, ap, ap₂, sym}
use native.Mathlib.Omega.{arith}
use Rattle.calculus.specs.Meaning.{str}
use Rattle.calculus.specs.Strings.{eq_string}
use Rattle.format.specs.Fields.{u16}
use Rattle.format.specs.Places.{literals_from, texts, text_at}
use Rattle.format.proofs.RecordFaults.{string_constraint_formed}
use Rattle.question.proofs.Posed.{literals_to}
use Rattle.question.specs.Posed.{asked}
use Rattle.judging.proofs.Constraints.{not_same_met, literal_met, same_met, text_is, text_room}
use Rattle.judging.specs.Ready.{values_of}
use Rattle.judging.proofs.string_met.Goals as goal
use Rattle.judging.proofs.string_met.Goals.{After-same_strings-same}

pub bounds-places-x : goal.bounds-places-x
bounds-places-x c =
    let x = (string_constraint_formed c.args.b.now c.args.s.p c.args.s.literals c.args.at 6 c.requires.2).first in
    omega (arith, c.u16_at-x.ensures.0, c.requires.0.enough)

pub is_literal-requires : goal.is_literal-requires
is_literal-requires c =
    let r = string_constraint_formed c.args.b.now c.args.s.p c.args.s.literals c.args.at 6 c.requires.2 in
    let two : u16 c.args.b.now c.args.at ≡ 2 = sym c.u16_at-relation.ensures.0 ∙ c.if-relation-eq-IS_LITERAL.true in
    rw (c.u16_at-x.ensures.0, c.u16_at-y.ensures.0) (
      text_room c.args.b.now c.args.v.now c.args.s c.args.places.now c.requires.0 (u16 c.args.b.now (c.args.at + 2)) r.first,
      literals_to c.requires.0.posed (u16 c.args.b.now (c.args.at + 4)) (r.literal two),
    )

pub returns-then-relation-eq-IS_LITERAL : goal.returns-then-relation-eq-IS_LITERAL
unfolding asked
returns-then-relation-eq-IS_LITERAL c =
    let u16-at = c.u16_at-relation in
    let b = c.args.b.now in
    let v = c.args.v.now in
    let k = c.args.s.literals in
    let r = string_constraint_formed b c.args.s.p k c.args.at 6 c.requires.2 in
    let two : u16 b c.args.at ≡ 2 = sym u16-at.ensures.0 ∙ c.if-relation-eq-IS_LITERAL.true in
    let few : c.u16_at-y.result ≤ k = omega (arith, c.u16_at-y.ensures.0, r.literal two) in
    c.is_literal.ensures k few
    ∙ ap₂ (λ (x y : ℕ). eq_string (text_at v (get_or c.args.places.now x 0)) (get_or ([] ∷ texts b k literals_from) y []))
    c.u16_at-x.ensures.0 c.u16_at-y.ensures.0
    ∙ ap (λ (t : List ℕ). eq_string t (get_or ([] ∷ texts b k literals_from) (u16 b (c.args.at + 4)) []))
    (text_is b v c.args.s c.args.places.now c.requires.0 (u16 b (c.args.at + 2)) r.first)
    ∙ literal_met (asked b c.args.s) (values_of b v c.args.s) (u16 b c.args.at) (u16 b (c.args.at + 2)) (u16 b (c.args.at + 4)) two

pub bounds-places-y : goal.bounds-places-y
bounds-places-y c =
    let u16-at = c.u16_at-relation in
    let r = string_constraint_formed c.args.b.now c.args.s.p c.args.s.literals c.args.at 6 c.requires.2 in
    let y = r.second (λ e. c.if-relation-eq-IS_LITERAL.false (u16-at.ensures.0 ∙ e)) in
    omega (arith, c.u16_at-y.ensures.0, c.requires.0.enough)

pub same_strings-same-requires : goal.same_strings-same-requires
same_strings-same-requires c =
    let u16-at = c.u16_at-relation in
    let r = string_constraint_formed c.args.b.now c.args.s.p c.args.s.literals c.args.at 6 c.requires.2 in
    let y = r.second (λ e. c.if-relation-eq-IS_LITERAL.false (u16-at.ensures.0 ∙ e)) in
    rw (c.u16_at-x.ensures.0, c.u16_at-y.ensures.0) (
      text_room c.args.b.now c.args.v.now c.args.s c.args.places.now c.requires.0 (u16 c.args.b.now (c.args.at + 2)) r.first,
      text_room c.args.b.now c.args.v.now c.args.s c.args.places.now c.requires.0 (u16 c.args.b.now (c.args.at + 4)) y,
    )

-- whether the two strings are the same
strings : (c : After-same_strings-same) →
    let s = c.args in
    let a = values_of s.b.now s.v.now s.s in
    c.same_strings-same.result ≡ eq_string (str a (u16 s.b.now (s.at + 2))) (str a (u16 s.b.now (s.at + 4)))
strings c =
    let u16-at2 = c.u16_at-x in
    let u16-at = c.u16_at-relation in
    let b = c.args.b.now in
    let v = c.args.v.now in
    let r = string_constraint_formed b c.args.s.p c.args.s.literals c.args.at 6 c.requires.2 in
    let y = r.second (λ e. c.if-relation-eq-IS_LITERAL.false (u16-at.ensures.0 ∙ e)) in
    c.same_strings-same.ensures
    ∙ ap₂ (λ (x y : ℕ). eq_string (text_at v (get_or c.args.places.now x 0)) (text_at v (get_or c.args.places.now y 0))) u16-at2.ensures.0
    c.u16_at-y.ensures.0
    ∙ ap₂ eq_string (text_is b v c.args.s c.args.places.now c.requires.0 (u16 b (c.args.at + 2)) r.first)
    (text_is b v c.args.s c.args.places.now c.requires.0 (u16 b (c.args.at + 4)) y)

pub returns-then-relation-eq-SAME : goal.returns-then-relation-eq-SAME
returns-then-relation-eq-SAME c =
    let u16-at = c.u16_at-relation in
    let b = c.args.b.now in
    let v = c.args.v.now in
    let zero : u16 b c.args.at ≡ 0 = sym u16-at.ensures.0 ∙ c.if-relation-eq-SAME.true in
    strings (goal.at.returns-then-relation-eq-SAME c).After-same_strings-same
    ∙ same_met (asked b c.args.s) (values_of b v c.args.s) (u16 b c.args.at) (u16 b (c.args.at + 2)) (u16 b (c.args.at + 4)) zero

pub returns-else-relation-eq-SAME : goal.returns-else-relation-eq-SAME
returns-else-relation-eq-SAME c =
    let u16-at = c.u16_at-relation in
    let b = c.args.b.now in
    let v = c.args.v.now in
    let r = string_constraint_formed b c.args.s.p c.args.s.literals c.args.at 6 c.requires.2 in
    let not-two : u16 b c.args.at ≡ 2 → ⊥ = λ e. c.if-relation-eq-IS_LITERAL.false (u16-at.ensures.0 ∙ e) in
    let not_zero : u16 b c.args.at ≡ 0 → ⊥ = λ e. c.if-relation-eq-SAME.false (u16-at.ensures.0 ∙ e) in
    let one : u16 b c.args.at ≡ 1 = omega (arith, r.relation) in
    ap not (strings (goal.at.returns-else-relation-eq-SAME c).After-same_strings-same)
    ∙ not_same_met (asked b c.args.s) (values_of b v c.args.s) (u16 b c.args.at) (u16 b (c.args.at + 2)) (u16 b (c.args.at + 4)) one
