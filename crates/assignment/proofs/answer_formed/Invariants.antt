use Prim.Native.Nat.{◌-◌}
use mathlib.Core.Path.{◌≡◌}
use Rattle.format.specs.Answer.{answer_form}
use Rattle.assignment.proofs.answer_formed.Given as goal

abbrev pub invariant-loop : goal.invariant-loop
invariant-loop l = answer_form l.v (l.p - l.counter) l.q l.at ≡ answer_form l.v l.p l.q 0
