use Prim.Native.Nat.{◌≤◌}
use lib.ListN.{drop, length, replicate, take}
use mathlib.Core.List.{◌++◌}
use mathlib.Core.Path.{◌≡◌}
use Rattle.calculus.specs.Strings.{word}
use Rattle.strings.proofs.nth_word.Given as goal

abbrev pub invariant-loop-i : goal.invariant-loop-i
invariant-loop-i l =
    (1 ≤ l.i) × (l.i ≤ l.m) × (l.rest ≤ 16) × (length l.row ≡ 64) × (take l.i l.row ≡ replicate l.i 0)
    × (word l.n l.i l.rest ++ drop l.i (take l.m l.row) ≡ word l.n l.m l.k)
