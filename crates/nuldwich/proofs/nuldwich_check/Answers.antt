use lib.IntN.{pos}
use lib.ListN.{length-replicate}
use Rattle.calculus.specs.Limits.{work_numbers}
use Rattle.nuldwich.proofs.Numbered.{own}
use Rattle.nuldwich.proofs.nuldwich_check.Goals as goal

pub returns : goal.returns
returns c = own c.check_ticket.ensures c.from.ensures (length-replicate work_numbers (pos 0))
