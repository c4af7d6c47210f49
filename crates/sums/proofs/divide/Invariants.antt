use lib.IntN.{nat_abs}
use lib.ListN.{drop}
use mathlib.Core.Path.{◌≡◌}
use Rattle.integers.specs.Division.{floor_div}
use Rattle.calculus.specs.LinearForms.{eq_integers}
use Rattle.lists.proofs.Filled.{Changing}
use Rattle.sums.proofs.Division.{multiples}
use Rattle.sums.proofs.divide.Given as goal

abbrev pub invariant-loop-j : goal.invariant-loop-j
invariant-loop-j l =
    Changing 2 (λ x. floor_div x (nat_abs (l.d))) l.initial.row l.row l.j
    × (eq_integers (drop l.j (multiples l.initial.row (nat_abs (l.d)))) (drop l.j l.initial.row) ≡ eq_integers (drop 2 (multiples l.initial.row (nat_abs (l.d)))) (drop 2 l.initial.row))
