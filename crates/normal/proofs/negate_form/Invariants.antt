use lib.IntN.{◌*ℤ◌, negsuc, ℤ}
use Rattle.lists.proofs.Filled.{Changing}
use Rattle.normal.proofs.negate_form.Given as goal

abbrev pub minus : ℤ → ℤ
minus x = negsuc 0 *ℤ x

abbrev pub invariant-loop-x : goal.invariant-loop-x
invariant-loop-x l = Changing 0 minus l.initial.x-items l.x-items l.x-index
