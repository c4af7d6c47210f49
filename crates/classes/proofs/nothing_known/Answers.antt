use mathlib.Core.Path.{refl}
use Rattle.classes.proofs.nothing_known.Goals as goal

pub returns : goal.returns
returns c = (refl, c.first_labels.ensures)
