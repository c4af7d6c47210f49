-- What the code keeps of a question, from the definitions of the format: the literals and the constraints stand in the bytes.
use Rattle.std.specs.Prelude.{ℕ, Bool, false, List, Result, Ok, Err}
use Rattle.format.specs.Question as format
use Rattle.format.specs.Places.{Numbers, read_to}
use Rattle.question.specs.declared.Manner.{Manner}
use Rattle.question.specs.declared.Progress.{Progress}
use Rattle.question.specs.declared.Read.{Read}
use Rattle.records.specs.declared.Found.{Found}
use Rattle.records.specs.declared.Found.TheVariants.{Whole, Cut, Nothing}
use Rattle.faults.specs.Numbers.{number}
use Rattle.faults.specs.declared.Refusal.{Refusal}

abbrev pub manner_of : Manner → format.Manner
manner_of m = record { limited = m.limited; greatest = m.greatest }

abbrev pub numbers_of : Progress → Numbers
numbers_of s = record { last = s.last; n = s.n; p = s.p; q = s.q; literals = s.literals; constraints = s.constraints; extended = s.extended }

abbrev pub progress_of : List ℕ → Progress → format.Progress
progress_of b s = read_to b (numbers_of s)

-- "reading ends at the six leading bytes of the first claim or end record"
abbrev pub ends_at : Found → Bool
ends_at (Whole k m) = format.ending k
ends_at (Cut k) = format.ending k
ends_at Nothing = false

-- the outcome of reading, a refusal by its number
unfoldable pub reading_of : List ℕ → Result Read Refusal → format.Reading
reading_of b (Err f) = format.Stopped (number f.fault) f.record
reading_of b (Ok r) = format.Ended (progress_of b r.numbers) r.at r.record
