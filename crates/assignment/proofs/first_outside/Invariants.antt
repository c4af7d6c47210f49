use Prim.Native.Nat.{◌-◌}
use mathlib.Core.Path.{◌≡◌}
use Rattle.calculus.specs.Facts.{blank}
use Rattle.format.specs.Answer.{outside}
use Rattle.format.specs.Places.{skip}
use Rattle.assignment.proofs.first_outside.Given as goal

abbrev pub invariant-loop-number : goal.invariant-loop-number
invariant-loop-number l =
    (l.at ≡ skip l.v l.number 0) × (outside l.v (blank l.n l.p l.q) (l.p - l.number) l.number l.at ≡ outside l.v (blank l.n l.p l.q) l.p 0 0)
