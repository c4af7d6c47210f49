use Prim.Native.Nat.{◌-◌}
use lib.ListN.{length}
use mathlib.Core.Path.{◌≡◌}
use Rattle.calculus.specs.Cores.{core_in}
use Rattle.question.specs.Posed.{asked}
use Rattle.claims.specs.Outcomes.{walk_from, steps_from}
use Rattle.claims.proofs.Walking.{Going}
use Rattle.claims.proofs.Gathering.{Gathering}
use Rattle.claims.proofs.walk.Given as goal

abbrev pub invariant-loop-found : goal.invariant-loop-found
invariant-loop-found l =
    Going l.ticket l.s l.claim (length l.initial.work) (walk_from l.claim l.ticket l.s l.r l.record)
    l.work l.b l.known l.i l.k
    × Gathering l.ticket l.s l.claim (core_in (asked l.ticket l.s) (steps_from l.ticket l.record)) l.work l.sets l.b l.known l.grounds l.i
    × (length l.sets ≡ length l.initial.sets)

abbrev pub decreases-loop-found : goal.decreases-loop-found
decreases-loop-found l = length l.ticket - l.i
