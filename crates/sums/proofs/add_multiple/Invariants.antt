use lib.ListN.{drop, length, take}
use mathlib.Core.Path.{◌≡◌}
use Rattle.sums.specs.Sums.{added}
use Rattle.sums.proofs.add_multiple.Given as goal

abbrev pub invariant-loop-j : goal.invariant-loop-j
invariant-loop-j l =
    (length l.sum ≡ 50) × (take l.j l.sum ≡ take l.j (added l.initial.sum (l.multiplier) l.row)) × (drop l.j l.sum ≡ drop l.j l.initial.sum)
