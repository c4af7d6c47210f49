use mathlib.Core.Path.{◌≡◌, refl, ap}
use Prim.Native.Nat.{◌-◌}
use lib.ListN.{get_or}
use Rattle.branch.specs.Stack.{no_split, stack, latest_of}
use Rattle.branch.proofs.Stacks.{stack_top}
use Rattle.branch.proofs.Branch.cut_back.Goals as goal

pub returns : goal.returns
unfolding stack latest_of
returns c =
    let b = c.args.self in
    let last : get_or b.splits (c.from.result - 1) no_split ≡ latest_of (stack b) = rw (stack_top b.depth b.splits c.requires.0, c.from.ensures) refl in
    (ap (λ s. s.mark) last, refl)
