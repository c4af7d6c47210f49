use Prim.Native.Nat.{◌*◌}
use lib.ListN.{drop, length}
use mathlib.Core.List.{map}
use mathlib.Core.Path.{◌≡◌}
use Rattle.calculus.specs.NormalForms.{normal}
use Rattle.rows.specs.Rows.{branch_of, row_length}
use Rattle.normal.proofs.normalise.Given as goal

abbrev pub invariant-loop-k : goal.invariant-loop-k
invariant-loop-k l =
    (length l.work ≡ length l.initial.work)
    × (branch_of l.work l.k ≡ map normal (branch_of l.initial.work l.k))
    × (drop (row_length * l.k) l.work ≡ drop (row_length * l.k) l.initial.work)
