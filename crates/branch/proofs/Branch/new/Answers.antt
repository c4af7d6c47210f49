use mathlib.Core.Path.{refl}
use Rattle.branch.specs.Stack.{last_first, stack}
use Rattle.branch.proofs.Branch.new.Goals as goal

pub returns : goal.returns
unfolding stack last_first
returns c = (refl, refl)
