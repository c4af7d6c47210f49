use lib.ListN.{length, take}
use mathlib.Core.Path.{◌≡◌}
use Rattle.assignment.specs.Form.{columns_at}
use Rattle.assignment.proofs.fill_columns.Given as goal

abbrev pub invariant-loop-j : goal.invariant-loop-j
invariant-loop-j l =
    (length l.values ≡ length l.initial.values) × (take l.j l.values ≡ take l.j (columns_at l.v l.p l.q))
