use mathlib.Core.Path.{sym, ◌∙◌, ap}
use lib.ListN.{length}
use Rattle.needs.proofs.Stacks.{length-last_first}
use Rattle.needs.proofs.PendingSplits.len.Goals as goal

pub returns : goal.returns
returns c =
    let p = c.self.inside in
    sym (length-last_first p.depth p.splits) ∙ ap length c.self.view_is
