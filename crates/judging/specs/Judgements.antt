-- What judging says and shows, as the code has it.
use Rattle.std.specs.Prelude.{◌≡◌, List, ℕ, Result, Ok, Err}
use Rattle.format.specs.Judging as format
use Rattle.format.specs.Judging.{of_question, of_answer, said, shown_by}
use Rattle.faults.specs.Numbers.{number}
use Rattle.faults.specs.declared.Refusal.{Refusal}
use Rattle.judging.specs.declared.Verdict.{Verdict}
use Rattle.judging.specs.declared.Verdict.TheVariants.{AllMet, Unmet}
use Rattle.judging.specs.declared.Side.{Side}
use Rattle.judging.specs.declared.Side.TheVariants.{Question, Answer}
use Rattle.judging.specs.declared.Shown.{Shown}
use Rattle.judging.specs.declared.Finding.{Finding}

abbrev pub judgement_of : Result Verdict Refusal → format.Judgement
judgement_of (Err r) = format.Refusal (number r.fault) r.record
judgement_of (Ok AllMet) = format.AllMet
judgement_of (Ok (Unmet k)) = format.Unmet k

abbrev pub side_of : Side → format.Side
side_of Question = of_question
side_of Answer = of_answer

abbrev pub shown_of : Shown → format.Shown
shown_of s = record { side = side_of s.side; from = s.from; to = s.to }

-- it is what judging g says and shows of the question b and the answer v
pub record Finds (b v : List ℕ) (g : format.Submission) (r : Finding) : Type 0 where
  pub says : judgement_of r.said ≡ said g
  pub shows : shown_of r.shown ≡ shown_by b v g
