use mathlib.Core.Path.{◌≡◌}
use Rattle.calculus.specs.Classes.{labels}
use Rattle.rows.specs.Rows.{branch_of}
use Rattle.classes.proofs.bring_up.Given as goal

abbrev pub invariant-loop-k : goal.invariant-loop-k
invariant-loop-k l = l.labels ≡ labels (branch_of l.work l.k)
