use Prim.Native.Nat.{◌-◌}
use lib.ListN.{length}
use mathlib.Core.List.{◌++◌}
use mathlib.Core.Path.{◌≡◌}
use Rattle.calculus.specs.Limits.{column_limit}
use Rattle.calculus.specs.LinearForms.{zeros}
use Rattle.format.specs.Fields.{i32s}
use Rattle.model.proofs.read_model.Given as goal

abbrev pub invariant-loop-j : goal.invariant-loop-j
invariant-loop-j l = (l.model ≡ i32s l.ticket l.at l.j ++ zeros (column_limit - l.j)) × (length l.model ≡ column_limit)
