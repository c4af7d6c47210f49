-- No two refusals have one number: what a clause says of a number it says of the refusal.
use Prim.Native.Nat.{ℕ}
use mathlib.Core.Path.{◌≡◌, refl, sym, ◌∙◌, ap}
use lib.Dec.{eqb}
use mathlib.Core.Bool.{cond}
use Rattle.faults.specs.declared.Fault.{Fault}
use Rattle.faults.specs.declared.Fault.TheVariants.{SmallBuffer, LongTicket, CutShort, OutOfPlace, NoForm, OutOfRange, Repeats, DoesNotFit}
use Rattle.faults.specs.declared.Fault.TheVariants.{PassesLimit, NoRoom, EndsEarly, BreaksFact, NotSettled, LongString, AnswerForm, AnswerRange}
use Rattle.faults.specs.Numbers.{number}

-- the refusal of a number up to 8, and another one for every other number
upto_eight : ℕ → Fault → Fault
upto_eight k other =
    cond (eqb k 1) SmallBuffer (cond (eqb k 2) LongTicket (cond (eqb k 3) CutShort (cond (eqb k 4) OutOfPlace
    (cond (eqb k 5) NoForm (cond (eqb k 6) OutOfRange (cond (eqb k 7) Repeats (cond (eqb k 8) DoesNotFit other)))))))

named : ℕ → Fault
named k =
    upto_eight k (cond (eqb k 9) PassesLimit (cond (eqb k 10) NoRoom (cond (eqb k 11) EndsEarly (cond (eqb k 12) BreaksFact
    (cond (eqb k 13) NotSettled (cond (eqb k 14) LongString (cond (eqb k 15) AnswerForm AnswerRange)))))))

named_number : (f : Fault) → named (number f) ≡ f
unfolding named upto_eight
named_number SmallBuffer = refl
named_number LongTicket = refl
named_number CutShort = refl
named_number OutOfPlace = refl
named_number NoForm = refl
named_number OutOfRange = refl
named_number Repeats = refl
named_number DoesNotFit = refl
named_number PassesLimit = refl
named_number NoRoom = refl
named_number EndsEarly = refl
named_number BreaksFact = refl
named_number NotSettled = refl
named_number LongString = refl
named_number AnswerForm = refl
named_number AnswerRange = refl

pub number_injective : (f g : Fault) → number f ≡ number g → f ≡ g
number_injective f g e = sym (named_number f) ∙ ap named e ∙ named_number g
