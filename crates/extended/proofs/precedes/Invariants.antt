use Prim.Native.Nat.{◌+◌}
use lib.ListN.{length}
use mathlib.Core.Path.{◌≡◌}
use Rattle.calculus.specs.Extended.{precedes}
use Rattle.format.specs.Places.{text_at}
use Rattle.extended.proofs.precedes.Given as goal

-- what is left of the two texts tells their order, and as many characters stood before what is left of either
abbrev pub invariant-loop-c : goal.invariant-loop-c
invariant-loop-c l =
    let s = text_at l.v l.x in
    let t = text_at l.v l.y in
    (precedes l.c-iterator.a l.c-iterator.b ≡ precedes s t) × (length l.c-iterator.a + length t ≡ length l.c-iterator.b + length s)
