use Prim.Native.Nat.{◌-◌}
use native.Mathlib.Omega.{arith}
use Rattle.question.proofs.Literals.{empty_text}
use Rattle.question.proofs.placed_text.Goals as goal

pub returns-then-l-eq0 : goal.returns-then-l-eq0
returns-then-l-eq0 c = empty_text _ _ c.if-l-eq0.true

pub written_text-requires : goal.written_text-requires
written_text-requires c =
    (omega arith, c.requires.literals_from_in_bounds, c.requires.placed.0 (c.args.l - 1) (omega arith))
