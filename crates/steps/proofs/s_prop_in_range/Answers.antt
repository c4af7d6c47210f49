use native.Mathlib.Omega.{arith}
use mathlib.Core.Path.{◌∙◌, sym, ap}
use Prim.Native.Nat.{◌+◌}
use borrow.Author.Tests.{le-leb, lt-leb}
use Rattle.format.specs.Fields.{u16}
use Rattle.format.specs.StepForms.{are_variables, operands_in_range}
use Rattle.steps.proofs.Loops.{two_variables}
use Rattle.steps.proofs.s_prop_in_range.Goals as goal

pub returns-then-u16_at-le-CODE : goal.returns-then-u16_at-le-CODE
unfolding operands_in_range
returns-then-u16_at-le-CODE c =
    λ k m. c.variables_below.ensures ∙ ap (are_variables c.args.p) (two_variables c.args.b.now c.args.body 6)
    ∙ sym (rw (le-leb (u16 c.args.b.now (c.args.body + 4)) 1 (omega arith)))

pub returns-else-u16_at-le-CODE : goal.returns-else-u16_at-le-CODE
unfolding operands_in_range
returns-else-u16_at-le-CODE c =
    λ k m. rw (lt-leb (u16 c.args.b.now (c.args.body + 4)) 1 (omega arith), lt-leb c.u16_at.result 1 (omega arith))
