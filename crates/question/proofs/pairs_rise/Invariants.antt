use mathlib.Core.Path.{◌≡◌}
use Rattle.format.specs.Fields.{pairs_at}
use Rattle.format.specs.Question.{rising}
use Rattle.question.proofs.pairs_rise.Given as goal

abbrev pub invariant-loop-column : goal.invariant-loop-column
invariant-loop-column l = rising l.c l.low l.column-iterator ≡ rising l.c 0 (pairs_at l.b l.at l.count)
