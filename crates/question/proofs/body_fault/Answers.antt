use borrow.Author.Tests.{ne_eqb}
use mathlib.Core.Path.{◌∙◌, sym}
use native.Mathlib.Omega.{arith}
use Rattle.format.specs.Question.{rank_of}
use Rattle.format.proofs.Places.{length_texts}
use Rattle.question.proofs.body_fault.Goals as goal

pub returns-in-1 : goal.returns-in-1
returns-in-1 c = rw (sym c.rank_of.ensures ∙ c.in-1.is) c.head_fault.ensures

pub literal_fault-requires : goal.literal_fault-requires
literal_fault-requires c = (c.requires.0, c.requires.1 (sym c.rank_of.ensures ∙ c.in-2.is))

pub returns-in-2 : goal.returns-in-2
returns-in-2 c = rw (sym c.rank_of.ensures ∙ c.in-2.is) c.literal_fault.ensures

pub returns-in-5 : goal.returns-in-5
returns-in-5 c = rw (sym c.rank_of.ensures ∙ c.in-5.is) c.extended_fault.ensures

pub returns-in_default : goal.returns-in_default
returns-in_default c =
    rw (
      ne_eqb (rank_of c.args.kind) 1 (λ e. omega (arith, c.rank_of.ensures)),
      ne_eqb (rank_of c.args.kind) 2 (λ e. omega (arith, c.rank_of.ensures)),
      ne_eqb (rank_of c.args.kind) 5 (λ e. omega (arith, c.rank_of.ensures)),
      length_texts,
    ) (rw c.columns.ensures at c.fact_fault.ensures)
