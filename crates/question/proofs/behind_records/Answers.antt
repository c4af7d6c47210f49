use mathlib.Core.Path.{sym, ◌∙◌, ap}
use native.Mathlib.Omega.{arith}
use Rattle.format.specs.Places.{skip}
use Rattle.format.proofs.Places.{skip_done}
use Rattle.question.proofs.Loops.{record_passed, record_within}
use Rattle.question.proofs.behind_records.Goals as goal

pub loop-init : goal.loop-init
loop-init c = sym (skip_done _ _ _ (omega arith))

pub u32_at-requires : goal.u32_at-requires
u32_at-requires c = omega (arith, record_within _ _ _ _ c.loop.invariant _ c.loop-test.true c.requires)

pub overflow_add-j-in-loop : goal.overflow_add-j-in-loop
overflow_add-j-in-loop c = omega (arith, record_within _ _ _ _ c.loop.invariant _ c.loop-test.true c.requires)

pub loop-preserved : goal.loop-preserved
loop-preserved c = record_passed _ _ _ _ c.loop.invariant _ c.u32_at.ensures.0

pub returns : goal.returns
returns c = c.loop.invariant ∙ ap (λ n. skip c.args.b.now n c.args.from) (omega arith)
