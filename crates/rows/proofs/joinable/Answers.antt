use lib.Dec.{leb}
use mathlib.Core.Path.{◌∙◌, ap}
use Rattle.rows.proofs.Tested.{joinable_test}
use Rattle.rows.specs.Rows.{fact_of}
use Rattle.rows.proofs.joinable.Goals as goal

pub returns : goal.returns
returns c = ap (λ k. leb k 1) c.tag_of.ensures ∙ joinable_test (fact_of c.args.row.now)
