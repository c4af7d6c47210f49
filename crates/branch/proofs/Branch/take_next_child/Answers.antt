use native.Mathlib.Omega.{arith}
use mathlib.Core.Path.{◌≡◌, refl}
use Prim.Native.Nat.{◌-◌, ◌<◌}
use borrow.Author.Rules.{rules}
use lib.ListN.{length}
use borrow.Author.Tests.{lt-ltb, le-ltb}
use Rattle.branch.specs.Stack.{stack, begun_of}
use Rattle.branch.proofs.Stacks.{stack_top, stack_replace}
use Rattle.branch.proofs.Branch.take_next_child.Goals as goal

pub returns-then-split : goal.returns-then-split
unfolding stack begun_of
returns-then-split c =
    let b = c.args.self in
    let n : length b.splits ≡ 64 = search rules in
    let within : b.depth - 1 < length b.splits = omega arith in (
      refl,
      rw (
        c.from-top.ensures,
        stack_replace b.depth b.splits _ c.requires.0 within,
        stack_top b.depth b.splits c.requires.0,
        ← c.from-top.ensures,
        lt-ltb _ _ c.if-split.true,
      ) refl,
    )

pub returns-else-split : goal.returns-else-split
unfolding stack begun_of
returns-else-split c =
    let b = c.args.self in
    (refl, rw (stack_top b.depth b.splits c.requires.0, ← c.from-top.ensures, le-ltb _ _ c.if-split.false) refl)
