use Rattle.nuldwich.proofs.Numbered.{lent}
use Rattle.nuldwich.proofs.nuldwich_check_in.Goals as goal

pub returns : goal.returns
returns c = lent c.check_ticket.ensures c.from.ensures
