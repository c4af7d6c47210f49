use mathlib.Core.Path.{refl}
use Rattle.format.specs.Cores.{word}
use Rattle.cores.proofs.no_constraint.Goals as goal

pub returns : goal.returns
unfolding word
returns c = refl
