use mathlib.Core.Path.{refl}
use Rattle.branch.specs.Stack.{stack, latest_of}
use Rattle.branch.proofs.Stacks.{stack_top}
use Rattle.branch.proofs.Branch.latest.Goals as goal

pub returns : goal.returns
unfolding stack latest_of
returns c = rw (stack_top c.args.self.depth c.args.self.splits c.requires.0, c.from.ensures) refl
