use native.Mathlib.Omega.{arith}
use mathlib.Core.Path.{◌≡◌, refl}
use borrow.Author.Rules.{rules}
use lib.ListN.{length}
use Rattle.branch.specs.Stack.{stack}
use Rattle.branch.proofs.Stacks.{stack_push}
use Rattle.branch.proofs.Branch.mark.Goals as goal

pub returns : goal.returns
unfolding stack
returns c =
    let b = c.args.self in
    let n : length b.splits ≡ 64 = search rules in
    (refl, rw c.from.ensures (stack_push b.depth b.splits _ (omega arith)))
