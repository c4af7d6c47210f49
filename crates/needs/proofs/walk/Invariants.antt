use Prim.Native.Nat.{◌-◌, ◌≤◌}
use lib.ListN.{length}
use Rattle.needs.specs.Outcomes.{need_started}
use Rattle.needs.proofs.Walking.{Going}
use Rattle.needs.proofs.walk.Given as goal

abbrev pub invariant-loop-kind : goal.invariant-loop-kind
invariant-loop-kind l =
    Going l.ticket l.s l.claim (need_started l.claim l.ticket l.s l.r l.from) l.pending l.report l.facts l.at l.record × (l.from ≤ l.at)

abbrev pub decreases-loop-kind : goal.decreases-loop-kind
decreases-loop-kind l = length l.ticket - l.at
