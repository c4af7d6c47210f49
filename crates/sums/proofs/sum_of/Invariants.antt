use Rattle.sums.proofs.Summing.{Summing}
use Rattle.sums.proofs.sum_of.Given as goal

abbrev pub invariant-loop-i : goal.invariant-loop-i
invariant-loop-i l = Summing l.work l.count l.b l.at l.pairs l.sum l.i
