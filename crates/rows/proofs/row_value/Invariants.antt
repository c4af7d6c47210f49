use Prim.Native.Nat.{◌*◌, ◌+◌, ◌≤◌}
use lib.IntN.{◌+ℤ◌, nat_abs, pos}
use lib.ListN.{drop, get_or, length}
use mathlib.Core.Path.{◌≡◌}
use Rattle.calculus.specs.LinearForms.{dot}
use Rattle.rows.proofs.row_value.Given as goal

abbrev pub invariant-loop-c : goal.invariant-loop-c
invariant-loop-c l =
    (nat_abs (l.sum) ≤ 1000000000 + length l.yielded * 100000000000000000)
    × (l.sum +ℤ dot (drop (length l.yielded + 2) l.row) (drop (length l.yielded) l.model) ≡ get_or l.row 1 (pos 0) +ℤ dot (drop 2 l.row) l.model)
