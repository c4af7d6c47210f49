use mathlib.Core.Path.{◌≡◌}
use mathlib.Core.List.{List}
use Prim.Native.Nat.{ℕ, ◌-◌, ◌≤◌}
use lib.ListN.{length}
use Rattle.format.specs.Question.{question_fault, unread, read_on}
use Rattle.question.specs.declared.Manner.{Manner}
use Rattle.question.specs.declared.Progress.{Progress}
use Rattle.question.specs.Progress.{manner_of, progress_of}
use Rattle.question.specs.Standing.{StandsTo}
use Rattle.question.proofs.read_question.Given as goal

-- what is left to read is the whole question
abbrev pub Left : Manner → List ℕ → Progress → ℕ → ℕ → Type 0
Left m b s r at = read_on (question_fault (manner_of m)) b (progress_of b s) r at ≡ read_on (question_fault (manner_of m)) b unread 0 0

abbrev pub invariant-loop-m : goal.invariant-loop-m
invariant-loop-m l = (l.record ≤ l.at) × StandsTo l.b l.numbers l.at × Left l.m l.b l.numbers l.record l.at

abbrev pub decreases-loop-m : goal.decreases-loop-m
decreases-loop-m l = length l.b - l.at
