use Prim.Native.Nat.{◌+◌, ◌*◌, ◌-◌, ◌<◌}
use lib.ListN.{length, get_or}
use mathlib.Core.Bool.{true}
use mathlib.Core.List.{[]}
use mathlib.Core.Path.{◌≡◌}
use Rattle.question.specs.Posed.{numbered}
use Rattle.calculus.specs.Children.{pair_children}
use Rattle.calculus.specs.Rules.{last_child}
use Rattle.format.specs.Fields.{u16, u16s}
use Rattle.format.specs.StepForms.{are_variables}
use Rattle.splits.proofs.put_card.Given as goal

abbrev pub invariant-loop-i : goal.invariant-loop-i
invariant-loop-i l =
    (l.work ≡ l.initial.work)
    × (are_variables l.s.p (u16s l.b (l.at + 2 * l.i) (l.m - 1 - l.i + 1)) ≡ true)
    × (l.left < length (pair_children (u16s l.b (l.at + 2 * l.i) (l.m - 1 - l.i + 1)) (last_child (numbered l.s) (u16 l.b l.at) l.m)))
    × (get_or (pair_children (u16s l.b (l.at + 2 * l.i) (l.m - 1 - l.i + 1)) (last_child (numbered l.s) (u16 l.b l.at) l.m)) l.left []
    ≡ get_or (pair_children (u16s l.b l.at l.m) (last_child (numbered l.s) (u16 l.b l.at) l.m)) (l.k - 1) [])
