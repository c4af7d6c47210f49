-- ThL3Case and ThL3Decimals: the functions of extended constraints, in the words of the demands.
use mathlib.Core.Path.{refl}
use native.Mathlib.Omega.{arith}
use Rattle.calculus.proofs.Extended.{upper_letter, upper_other, upper_append, upper_empty, lower_letter, lower_other, lower_append, lower_empty}
use Rattle.calculus.proofs.Extended.{decimal_digit, decimal_behind, to_int→, →to_int, to_int_else}
use Rattle.format.specs.Demands.{ThL3Case, ThL3Decimals}

pub characters_turned : ThL3Case
characters_turned = (
  record { letter = upper_letter; other = upper_other; each = upper_append; empty = upper_empty },
  record { letter = lower_letter; other = lower_other; each = lower_append; empty = lower_empty },
)

pub in_decimal : ThL3Decimals
in_decimal = record {
  one_digit = decimal_digit;
  last_digit = λ v d h g. decimal_behind v d h (omega arith);
  negative = λ k. refl;
  read = λ s k. (to_int→ s k, →to_int s k);
  not_numeric = to_int_else;
}
