use Rattle.calculus.specs.Cores.{Rested, named_sets}
use Rattle.cores.proofs.Resting.{Gathers}
use Rattle.cores.specs.Sets.{Carries}
use Rattle.format.specs.Fields.{pairs_at}
use Rattle.cores.proofs.named_sets.Given as goal

abbrev pub invariant-loop-fact : goal.invariant-loop-fact
invariant-loop-fact l =
    (r : Rested) → Carries l.sets l.count r → Gathers l.set (named_sets r l.fact-iterator) (named_sets r (pairs_at l.b l.at l.pairs))
