use Prim.Native.Nat.{◌-◌, ◌^◌}
use mathlib.Core.Path.{◌≡◌}
use Rattle.calculus.specs.Rules.{least_power}
use Rattle.card.proofs.least_power.Given as goal

abbrev pub invariant-loop-k : goal.invariant-loop-k
invariant-loop-k l = (l.power ≡ l.n ^ l.k) × (least_power (l.m - l.k) l.n l.m l.k ≡ least_power l.m l.n l.m 0)
