use Rattle.lines.proofs.Puts.{then}
use Rattle.lines.proofs.Page.tail.Goals as goal

pub returns : goal.returns
returns c = then c.integers.ensures c.text.ensures
