-- The numbers of document 01's table of refusals, by the names that the code gives them.
use Rattle.std.specs.Prelude.{ℕ, Result, Ok, Err}
use Rattle.faults.specs.declared.Fault.{Fault}
use Rattle.faults.specs.declared.Fault.TheVariants.{SmallBuffer, LongTicket, CutShort, OutOfPlace, NoForm, OutOfRange, Repeats, DoesNotFit}
use Rattle.faults.specs.declared.Fault.TheVariants.{PassesLimit, NoRoom, EndsEarly, BreaksFact, NotSettled, LongString, AnswerForm, AnswerRange}

abbrev pub number : Fault → ℕ
number SmallBuffer = 1
number LongTicket = 2
number CutShort = 3
number OutOfPlace = 4
number NoForm = 5
number OutOfRange = 6
number Repeats = 7
number DoesNotFit = 8
number PassesLimit = 9
number NoRoom = 10
number EndsEarly = 11
number BreaksFact = 12
number NotSettled = 13
number LongString = 14
number AnswerForm = 15
number AnswerRange = 16

-- the number of a test's fault, 0 where it finds none
abbrev pub fault_in : {A : Type 0} → Result A Fault → ℕ
fault_in (Ok x) = 0
fault_in (Err f) = number f
