-- The numbers of faults, where a test finds one and where it finds none.
use native.Mathlib.Omega.{arith}
use mathlib.Core.Path.{◌≡◌}
use Rattle.faults.specs.Numbers.{number}
use Rattle.faults.specs.declared.Fault.{Fault}
use Rattle.faults.specs.declared.Fault.TheVariants.{SmallBuffer, LongTicket, CutShort, OutOfPlace, NoForm, OutOfRange, Repeats, DoesNotFit}
use Rattle.faults.specs.declared.Fault.TheVariants.{PassesLimit, NoRoom, EndsEarly, BreaksFact, NotSettled, LongString, AnswerForm, AnswerRange}

-- a fault's number is never 0
pub numbered : (f : Fault) → number f ≡ 0 → ⊥
numbered SmallBuffer e = omega arith
numbered LongTicket e = omega arith
numbered CutShort e = omega arith
numbered OutOfPlace e = omega arith
numbered NoForm e = omega arith
numbered OutOfRange e = omega arith
numbered Repeats e = omega arith
numbered DoesNotFit e = omega arith
numbered PassesLimit e = omega arith
numbered NoRoom e = omega arith
numbered EndsEarly e = omega arith
numbered BreaksFact e = omega arith
numbered NotSettled e = omega arith
numbered LongString e = omega arith
numbered AnswerForm e = omega arith
numbered AnswerRange e = omega arith
