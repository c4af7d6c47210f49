use Prim.Native.Nat.{◌-◌}
use lib.ListN.{length}
use mathlib.Core.List.{◌++◌}
use mathlib.Core.Path.{◌≡◌}
use Rattle.format.specs.Places.{facts_at, skip}
use Rattle.rows.specs.Rows.{branch_of}
use Rattle.rows.specs.Work.{Fine}
use Rattle.constraints.proofs.load.Given as goal

abbrev pub invariant-loop-k : goal.invariant-loop-k
invariant-loop-k l =
    (l.at ≡ skip l.ticket l.k l.initial.at) × (length l.work ≡ length l.initial.work) × Fine l.work l.k
    × (branch_of l.work l.k ++ facts_at l.ticket (l.k-end - l.k) l.at ≡ facts_at l.ticket l.k-end l.initial.at)
