use lib.Dec.{eqb}
use mathlib.Core.Bool.{cond}
use Prim.Native.Nat.{ℕ}
use Rattle.lists.proofs.Filled.{Changing}
use Rattle.classes.proofs.relabel.Given as goal

-- one label
abbrev pub becomes : ℕ → ℕ → ℕ → ℕ
becomes old new l = cond (eqb l old) new l

abbrev pub invariant-loop-label : goal.invariant-loop-label
invariant-loop-label l = Changing 0 (becomes l.old l.new) l.initial.label-items l.label-items l.label-index
