use mathlib.Core.Path.{refl}
use Rattle.branch.specs.Stack.{stack}
use Rattle.branch.proofs.Branch.extend.Goals as goal

pub returns : goal.returns
unfolding stack
returns c = (refl, refl)
