use mathlib.Core.Path.{◌≡◌, ◌∙◌, ap}
use mathlib.Core.List.{◌∷◌}
use native.Mathlib.Omega.{arith}
use Prim.Native.Nat.{◌<◌}
use borrow.Author.Rules.{rules}
use lib.ListN.{length}
use Rattle.needs.specs.Pending.{waiting}
use Rattle.needs.proofs.Stacks.{first_push, length-last_first}
use Rattle.needs.proofs.PendingSplits.push.Goals as goal

pub bounds-self-inside-self-inside : goal.bounds-self-inside-self-inside
bounds-self-inside-self-inside c =
    let p = c.self.inside in
    omega (arith, length-last_first p.depth p.splits, ap length c.self.view_is, c.requires)

pub invariant_of-self : goal.invariant_of-self
invariant_of-self c =
    let p = c.self.inside in
    omega (arith, length-last_first p.depth p.splits, ap length c.self.view_is, c.requires)

pub returns : goal.returns
returns c =
    let p = c.self.inside in
    let n : length p.splits ≡ 3276 = search rules in
    let room : p.depth < length p.splits = omega (arith, length-last_first p.depth p.splits, ap length c.self.view_is, c.requires) in
    first_push p.depth p.splits c.args.split room ∙ ap (λ ss. waiting c.args.split ∷ ss) c.self.view_is
