use Rattle.lines.proofs.Puts.{then}
use Rattle.lines.proofs.Page.spaced.Goals as goal

pub returns : goal.returns
returns c = then c.byte.ensures c.decimal.ensures
