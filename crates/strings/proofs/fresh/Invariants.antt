use Prim.Native.Nat.{◌-◌}
use mathlib.Core.Path.{◌≡◌}
use Rattle.calculus.specs.Strings.{fresh_from}
use Rattle.strings.specs.Filling.{given_strings}
use Rattle.strings.proofs.fresh.Given as goal

abbrev pub invariant-loop-k : goal.invariant-loop-k
invariant-loop-k l =
    fresh_from (l.p - l.k) l.n l.m (given_strings l.characters l.sizes l.p) l.k ≡ fresh_from l.p l.n l.m (given_strings l.characters l.sizes l.p) 0
