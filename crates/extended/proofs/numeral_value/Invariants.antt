use mathlib.Core.Bool.{true}
use mathlib.Core.Path.{◌≡◌}
use Rattle.calculus.specs.Extended.{is_digit, numeral, numeral_from}
use Rattle.format.specs.Fields.{u32s}
use Rattle.lists.specs.Lists.{all}
use Rattle.extended.proofs.numeral_value.Given as goal

abbrev pub invariant-loop-c : goal.invariant-loop-c
invariant-loop-c l = (all is_digit l.c-iterator ≡ true) × (numeral_from l.value l.c-iterator ≡ numeral (u32s l.v l.at l.count))
