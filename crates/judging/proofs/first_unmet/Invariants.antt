use mathlib.Core.Path.{◌≡◌}
use Rattle.format.specs.Places.{constraints_from, skip}
use Rattle.judging.proofs.Unmet.{MetTo}
use Rattle.judging.specs.Ready.{values_of}
use Rattle.judging.proofs.first_unmet.Given as goal

abbrev pub invariant-loop-k : goal.invariant-loop-k
invariant-loop-k l =
    (l.at ≡ skip l.b l.k (constraints_from l.b l.s.literals)) × MetTo l.b l.v l.s (values_of l.b l.v l.s) l.k
