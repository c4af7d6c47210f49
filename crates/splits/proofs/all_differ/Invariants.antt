use Prim.Native.Nat.{◌+◌, ◌*◌, ◌-◌}
use mathlib.Core.Path.{◌≡◌}
use Rattle.calculus.specs.Rules.{distinct}
use Rattle.format.specs.Fields.{u16s}
use Rattle.splits.proofs.all_differ.Given as goal

abbrev pub invariant-loop-k : goal.invariant-loop-k
invariant-loop-k l = distinct (u16s l.b (l.at + 2 * l.k) (l.count - l.k)) ≡ distinct (u16s l.b l.at l.count)
