use borrow.Author.Tests.{eq-eqb, ne_eqb}
use mathlib.Core.Bool.{true, false}
use mathlib.Core.Path.{◌≡◌, ◌∙◌, refl, sym, ap}
use Prim.Native.Nat.{◌+◌, ◌*◌}
use native.Mathlib.Omega.{arith}
use Rattle.question.specs.Posed.{asked}
use Rattle.delimiters.proofs.Models.{model_tests}
use Rattle.delimiters.proofs.model_fault.Goals as goal
use Rattle.delimiters.proofs.model_fault.Goals.{Else-size-columns}

pub returns-then-size-columns : goal.returns-then-size-columns
unfolding asked
returns-then-size-columns c =
    let a = c.args in
    model_tests a.ticket.now (asked a.ticket.now a.s) a.at a.size 0 false _
    (ne_eqb _ _ (λ e. c.if-size-columns.true (e ∙ ap (λ n. 4 * n) (sym c.columns-columns.ensures)))) refl

-- the body has a number for each column
fits : (c : Else-size-columns) →
    let args = c.args in
    args.size ≡ 4 * (args.s.q + (args.s.p + args.s.p))
fits c = omega (arith, c.columns-columns.ensures)

pub returns-then-not-integers_within : goal.returns-then-not-integers_within
unfolding asked
returns-then-not-integers_within c =
    let a = c.args in
    model_tests a.ticket.now (asked a.ticket.now a.s) a.at a.size 0 true false (eq-eqb _ _ (fits (goal.at.returns-then-not-integers_within c).Else-size-columns))
    (sym (rw c.columns-columns.ensures at c.integers_within.ensures) ∙ c.if-not-integers_within.true)

pub returns : goal.returns
unfolding asked
returns c =
    let a = c.args in
    model_tests a.ticket.now (asked a.ticket.now a.s) a.at a.size 0 true true (eq-eqb _ _ (fits (goal.at.returns c).Else-size-columns))
    (sym (rw c.columns-columns.ensures at c.integers_within.ensures) ∙ c.if-not-integers_within.false)
