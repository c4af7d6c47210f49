use lib.IntN.{pos}
use Rattle.format.specs.Fields.{pairs_at}
use Rattle.constraints.proofs.Filling.{Filling}
use Rattle.constraints.proofs.fill_signed.Given as goal

abbrev pub invariant-loop-column : goal.invariant-loop-column
invariant-loop-column l = Filling (pairs_at l.b l.at l.pairs) (pos l.tag) l.constant l.sign l.row l.column-iterator
