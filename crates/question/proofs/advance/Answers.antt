use mathlib.Core.Path.{◌≡◌, refl, ◌∙◌, sym, ap}
use native.Mathlib.Omega.{arith}
use borrow.Author.Tests.{eq-eqb, ne_eqb}
use Rattle.format.specs.Records.{kind}
use Rattle.format.specs.Question.{rank_of}
use Rattle.format.specs.Places.{read_to}
use Rattle.format.proofs.Standing.{head_size, after_advanced}
use Rattle.question.specs.Progress.{numbers_of}
use Rattle.question.proofs.advance.Goals as goal
use Rattle.question.proofs.advance.Goals.{After-rank_of}

-- the rank of the record at the position
ranked : (c : After-rank_of) → c.rank_of.result ≡ rank_of (kind c.args.b.now c.args.at)
ranked c = c.rank_of.ensures ∙ ap rank_of c.requires.1

-- a head's body is there
pub read_head-requires : goal.read_head-requires
read_head-requires c =
    omega (
      arith,
      head_size c.args.b.now (numbers_of c.args.s) c.args.at c.requires.0
          (sym (ranked (goal.at.read_head-requires c).After-rank_of) ∙ c.in-1.is),
    )

pub returns-in-1 : goal.returns-in-1
returns-in-1 c =
    ap (read_to c.args.b.now)
    (simp (eq-eqb _ _ (sym (ranked (goal.at.returns-in-1 c).After-rank_of) ∙ c.in-1.is), c.read_head.ensures))
    ∙ after_advanced _ _ _ c.requires.0

pub returns-in-2 : goal.returns-in-2
returns-in-2 c =
    ap (read_to c.args.b.now) (sym (rw (sym (ranked (goal.at.returns-in-2 c).After-rank_of) ∙ c.in-2.is) refl))
    ∙ after_advanced _ _ _ c.requires.0

pub returns-in-5 : goal.returns-in-5
returns-in-5 c =
    ap (read_to c.args.b.now) (sym (rw (sym (ranked (goal.at.returns-in-5 c).After-rank_of) ∙ c.in-5.is) refl))
    ∙ after_advanced _ _ _ c.requires.0

pub returns-in_default : goal.returns-in_default
returns-in_default c =
    ap (read_to c.args.b.now) (sym (rw (sym (ranked (goal.at.returns-in_default c).After-rank_of)) (rw (
      ne_eqb c.rank_of.result 1 (λ e. omega arith),
      ne_eqb c.rank_of.result 2 (λ e. omega arith),
      ne_eqb c.rank_of.result 5 (λ e. omega arith),
    ) refl)))
    ∙ after_advanced _ _ _ c.requires.0
