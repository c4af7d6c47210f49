use mathlib.Core.Path.{ap₂}
use Rattle.calculus.specs.Cores.{sets_of}
use Rattle.cores.proofs.Growing.{both_unions}
use Rattle.cores.proofs.no_unions.Goals as goal

pub returns : goal.returns
unfolding sets_of
returns c = ap₂ both_unions c.no_constraint.ensures c.no_constraint-2.ensures
