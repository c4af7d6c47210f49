use lib.ListN.{length}
use mathlib.Core.Bool.{true}
use mathlib.Core.Path.{◌≡◌, sym}
use Rattle.format.specs.Judging.{part_within}
use Rattle.judging.proofs.Parts.{ends_within, nothing_shown_law, part_shown}
use Rattle.judging.specs.Judgements.{shown_of}
use Rattle.judging.proofs.show.Goals as goal
use Rattle.judging.proofs.show.Goals.{Else-not-part_within}

pub returns-then-not-part_within : goal.returns-then-not-part_within
returns-then-not-part_within c =
    let s = c.args in
    nothing_shown_law s.question s.answer (shown_of s.s) _ (sym c.if-not-part_within.ensures)
    c.between.ensures

-- the part lies within
inside : (c : Else-not-part_within) →
    let args = c.args in
    part_within (length args.question.now) (length args.answer.now) (shown_of args.s) ≡ true
inside c = sym c.if-not-part_within.ensures

pub between-requires-in-Question : goal.between-requires-in-Question
between-requires-in-Question c =
    let s = c.args in
    rw c.in-Question.is at
    (ends_within (length s.question.now) (length s.answer.now) (shown_of s.s) (inside (goal.at.between-requires-in-Question c).Else-not-part_within))

pub between-requires-in-Answer : goal.between-requires-in-Answer
between-requires-in-Answer c =
    let s = c.args in
    rw c.in-Answer.is at
    (ends_within (length s.question.now) (length s.answer.now) (shown_of s.s) (inside (goal.at.between-requires-in-Answer c).Else-not-part_within))

pub returns-in-Question : goal.returns-in-Question
returns-in-Question c =
    let s = c.args in
    part_shown s.question s.answer (shown_of s.s) _ (inside (goal.at.returns-in-Question c).Else-not-part_within) (rw c.in-Question.is c.between-in-Question.ensures)

pub returns-in-Answer : goal.returns-in-Answer
returns-in-Answer c =
    let s = c.args in
    part_shown s.question s.answer (shown_of s.s) _ (inside (goal.at.returns-in-Answer c).Else-not-part_within) (rw c.in-Answer.is c.between-in-Answer.ensures)
