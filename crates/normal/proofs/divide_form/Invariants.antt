use lib.IntN.{nat_abs, ℤ}
use Rattle.integers.specs.Division.{floor_div}
use Rattle.lists.proofs.Filled.{Changing}
use Rattle.normal.proofs.divide_form.Given as goal

-- division by the number given, as the machine holds it
abbrev pub by : ℤ → ℤ → ℤ
by d x = floor_div x (nat_abs d)

abbrev pub invariant-loop-x : goal.invariant-loop-x
invariant-loop-x l = Changing 0 (by l.d) l.initial.x-items l.x-items l.x-index
