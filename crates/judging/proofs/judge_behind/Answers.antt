use lib.ListN.{length}
use mathlib.Core.Bool.{true}
use mathlib.Core.Option.{none, some}
use mathlib.Core.Path.{◌∙◌, ◌≡◌, refl, subst, sym}
use native.Mathlib.Omega.{arith}
use Prim.Native.Nat.{ℕ, ◌≤◌}
use Rattle.calculus.specs.Facts.{blank}
use Rattle.format.proofs.Answers.{outside_place, record_whole}
use Rattle.format.specs.Answer.{answer_form, outside}
use Rattle.format.specs.Places.{skip}
use Rattle.format.specs.Records.{next}
use Rattle.question.specs.Posed.{asked, extended_asked}
use Rattle.assignment.proofs.Bounds.{outside_same}
use Rattle.assignment.proofs.Read.{found_nowhere, found_outside}
use Rattle.judging.proofs.Outcomes.{judged, out_of_range, unformed}
use Rattle.judging.proofs.judge_behind.Goals as goal
use Rattle.judging.proofs.judge_behind.Goals.{Else-not-answer_formed, In-None, In-Some}

pub answer_formed-requires : goal.answer_formed-requires
answer_formed-requires c = c.requires.stands.few_integers

pub returns-then-not-answer_formed : goal.returns-then-not-answer_formed
unfolding asked
returns-then-not-answer_formed c =
    let s = c.args in
    rw c.found.ensures (unformed s.b.now s.v.now (asked s.b.now s.s) (extended_asked s.b.now s.s)
    (sym c.if-not-answer_formed.ensures) c.at.ensures)

-- an answer of its form
formed : (c : Else-not-answer_formed) →
    let args = c.args in
    answer_form args.v.now args.s.p args.s.q 0 ≡ true
formed c = sym c.if-not-answer_formed.ensures

pub first_outside-requires : goal.first_outside-requires
first_outside-requires c = formed c

-- ---- a record out of range
module _ (c : In-Some) where
  abbrev r : ℕ
  r = c.in-Some.outside.number

  abbrev at : ℕ
  at = c.in-Some.outside.at

  located : (outside c.args.v.now (blank c.args.s.n c.args.s.p c.args.s.q) c.args.s.p 0 0 ≡ some r)
      × (at ≡ skip c.args.v.now r 0)
  located = found_outside c.args.v.now _ (c.in-Some.ensures)

  -- it is all there
  whole : next c.args.v.now at ≤ length c.args.v.now
  whole =
      let v = c.args.v.now in
      subst (λ (z : ℕ). next v z ≤ length v) (sym located.1)
      (record_whole v c.args.s.p c.args.s.q (formed (goal.at.In-Some c).Else-not-answer_formed) r
      (omega (arith, outside_place v _ c.args.s.p 0 0 r located.0)))

pub record_end-requires : goal.record_end-requires
record_end-requires c = whole (goal.at.record_end-requires c).In-Some

pub returns-in-Some : goal.returns-in-Some
unfolding asked
returns-in-Some c =
    let s = c.args in
    let u = asked s.b.now s.s in
    rw c.found-in-Some.ensures (out_of_range s.b.now s.v.now u (extended_asked s.b.now s.s) (formed (goal.at.returns-in-Some c).Else-not-answer_formed)
    (outside_same s.v.now u (blank u.n u.p u.q) u.p 0 0 refl refl ∙ (located (goal.at.returns-in-Some c).In-Some).0)
    c.at-in-Some.ensures (located (goal.at.returns-in-Some c).In-Some).1
    c.record_end.ensures)

nowhere : (c : In-None) →
    let args = c.args in
    outside args.v.now (asked args.b.now args.s) args.s.p 0 0 ≡ none
unfolding asked
nowhere c =
    let s = c.args in
    let u = asked s.b.now s.s in
    outside_same s.v.now u (blank u.n u.p u.q) u.p 0 0 refl refl
    ∙ found_nowhere s.v.now _ (c.in-None.ensures)

pub judge_values-requires : goal.judge_values-requires
judge_values-requires c =
    (c.requires, formed (goal.at.judge_values-requires c).Else-not-answer_formed, nowhere c)

pub returns-in-None : goal.returns-in-None
unfolding asked
returns-in-None c =
    let s = c.args in
    judged s.b.now s.v.now (asked s.b.now s.s) (extended_asked s.b.now s.s) (formed (goal.at.returns-in-None c).Else-not-answer_formed)
    (nowhere (goal.at.returns-in-None c).In-None) c.judge_values.ensures
