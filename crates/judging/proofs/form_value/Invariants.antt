use Rattle.judging.proofs.Summing.{Summing}
use Rattle.judging.proofs.form_value.Given as goal

abbrev pub invariant-loop-column : goal.invariant-loop-column
invariant-loop-column l = Summing l.b l.at l.count l.values l.sum l.column-iterator
