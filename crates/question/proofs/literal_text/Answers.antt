use Prim.Native.Nat.{◌-◌}
use native.Mathlib.Omega.{arith}
use Rattle.format.specs.Places.{literals_from}
use Rattle.format.proofs.Places.{skip_up}
use Rattle.question.proofs.Literals.{empty_text}
use Rattle.question.proofs.literal_text.Goals as goal

pub returns-then-l-eq0 : goal.returns-then-l-eq0
returns-then-l-eq0 c = empty_text _ _ c.if-l-eq0.true

pub behind_literals-requires : goal.behind_literals-requires
behind_literals-requires c =
    omega (arith, skip_up c.args.b.now (c.args.l - 1) c.args.l literals_from (omega arith), c.requires)
