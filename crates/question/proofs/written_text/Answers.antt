use native.Mathlib.Omega.{arith}
use Rattle.question.proofs.Literals.{record_there, written_text}
use Rattle.question.proofs.written_text.Goals as goal

pub u32_at-requires : goal.u32_at-requires
u32_at-requires c =
    omega (arith, record_there c.args.b.now c.args.l c.args.from c.requires.0 c.requires.1 c.requires.2)

pub overflow_add-result : goal.overflow_add-result
overflow_add-result c =
    omega (arith, record_there c.args.b.now c.args.l c.args.from c.requires.0 c.requires.1 c.requires.2)

pub returns : goal.returns
returns c =
    written_text c.args.b.now c.args.l c.args.from c.requires.0 c.requires.1 c.requires.2 _ c.u32_at.ensures.0
