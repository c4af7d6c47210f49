-- A question as it is read, and what is said of two, as the code has it.
use Rattle.std.specs.Prelude.{ℕ, ◌≡◌, List, Bool, true, false, Result, Ok, Err}
use Rattle.calculus.specs.Facts.{Question}
use Rattle.calculus.specs.Extended.{Extended}
use Rattle.format.specs.Question.{judged_question, by_reading}
use Rattle.format.specs.Sameness as format
use Rattle.faults.specs.Numbers.{number}
use Rattle.faults.specs.declared.Refusal.{Refusal}
use Rattle.question.specs.declared.Progress.{Progress}
use Rattle.question.specs.Posed.{asked, extended_asked, Posed}
use Rattle.sameness.specs.declared.Which.{Which}
use Rattle.sameness.specs.declared.Which.TheVariants.{First, Second}
use Rattle.sameness.specs.declared.Refused.{Refused}

abbrev pub which_of : Which → format.Which
which_of First = format.first
which_of Second = format.second

abbrev pub sameness_of : Result Bool Refused → format.Sameness
sameness_of (Err r) = format.SameRefused (which_of r.which) (number r.refusal.fault) r.refusal.record
sameness_of (Ok true) = format.Same
sameness_of (Ok false) = format.Different

-- what is said of the question in the bytes b, by how it was read
abbrev pub Said : List ℕ → (ℕ → ℕ → format.Sameness) → (Question → List Extended → format.Sameness) → format.Sameness → Type 0
Said b refuse compare x = by_reading refuse compare (judged_question b) ≡ x

-- it was refused, or read and may be worked on
abbrev pub AskedAs : List ℕ → Result Progress Refusal → Type 0
AskedAs b (Err r) = (refuse : ℕ → ℕ → format.Sameness) (compare : Question → List Extended → format.Sameness) → Said b refuse compare (refuse (number r.fault) r.record)
AskedAs b (Ok s) = Posed b s × ((refuse : ℕ → ℕ → format.Sameness) (compare : Question → List Extended → format.Sameness)
    → Said b refuse compare (compare (asked b s) (extended_asked b s)))
