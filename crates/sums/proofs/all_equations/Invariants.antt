use mathlib.Core.Path.{◌≡◌}
use Rattle.calculus.specs.Rules.{all_equations}
use Rattle.format.specs.Fields.{pairs_at}
use Rattle.rows.specs.Rows.{branch_of}
use Rattle.sums.proofs.Equations.{equations_from}
use Rattle.sums.proofs.all_equations.Given as goal

abbrev pub invariant-loop-k : goal.invariant-loop-k
invariant-loop-k l =
    equations_from l.work l.count l.b l.at l.pairs l.k ≡ all_equations (branch_of l.work l.count) (pairs_at l.b l.at l.pairs)
