use mathlib.Core.Path.{refl}
use Rattle.needs.specs.Pending.{last_first}
use Rattle.needs.proofs.PendingSplits.new.Goals as goal

pub returns : goal.returns
unfolding last_first
returns c = refl
