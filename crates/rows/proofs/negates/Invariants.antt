use Prim.Native.Nat.{◌+◌}
use lib.IntN.{negsuc}
use lib.ListN.{drop, length}
use mathlib.Core.Path.{◌≡◌}
use Rattle.calculus.specs.LinearForms.{eq_integers, scale}
use Rattle.rows.proofs.negates.Given as goal

abbrev pub invariant-loop-x : goal.invariant-loop-x
invariant-loop-x l =
    let j = length l.yielded + 1 in
    eq_integers (drop j (scale (negsuc 0) l.row)) (drop j l.other) ≡ eq_integers (drop 1 (scale (negsuc 0) l.row)) (drop 1 l.other)
