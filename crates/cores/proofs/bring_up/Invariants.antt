use lib.ListN.{take}
use mathlib.Core.Path.{◌≡◌}
use Rattle.calculus.specs.Cores.{Rested}
use Rattle.cores.specs.Sets.{Stands}
use Rattle.cores.specs.Words.{unions_of}
use Rattle.cores.proofs.bring_up.Given as goal

abbrev pub invariant-loop-k : goal.invariant-loop-k
invariant-loop-k l = (r : Rested) → Stands l.work l.sets l.count r → l.initial.out ≡ unions_of (take l.upto r) → l.out ≡ unions_of (take l.k r)
