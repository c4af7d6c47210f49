use mathlib.Core.Path.{◌≡◌}
use Rattle.calculus.specs.NormalForms.{gcd}
use Rattle.normal.proofs.gcd.Given as goal

abbrev pub invariant-loop-n : goal.invariant-loop-n
invariant-loop-n l = gcd l.m l.n ≡ gcd l.a l.b

abbrev pub decreases-loop-n : goal.decreases-loop-n
decreases-loop-n l = l.n
