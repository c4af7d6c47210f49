use native.Mathlib.Omega.{arith}
use borrow.Author.Tests.{ne_eqb}
use Rattle.format.specs.Question.{fact_fault}
use Rattle.question.proofs.fact_fault.Goals as goal

pub returns-in-3 : goal.returns-in-3
unfolding fact_fault
returns-in-3 c = rw c.in-3.is c.string_fault.ensures

pub returns-in-4 : goal.returns-in-4
unfolding fact_fault
returns-in-4 c = rw c.in-4.is c.arithmetic_fault.ensures

pub returns-in_default : goal.returns-in_default
unfolding fact_fault
returns-in_default c = rw (ne_eqb c.args.kind 3 (λ e. omega arith), ne_eqb c.args.kind 4 (λ e. omega arith))
