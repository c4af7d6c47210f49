use Rattle.std.proofs.Common.{arith, drop, rules, tests, ◌∙◌}
use Rattle.std.proofs.lemmas.Iterator.{YieldsList-from_slice}
use Rattle.std.proofs.lemmas.Iterator.Search.{all_from_yields_List}
use Rattle.calculus.specs.Limits.{number_limit}
use Rattle.format.specs.Fields.{within, all_within}
use Rattle.lists.proofs.Library.{list_all_is}
use Rattle.rows.proofs.Chains.{part_from}
use Rattle.rows.proofs.form_within.Goals as goal

pub returns : goal.returns
unfolding all_within
returns c =
    all_from_yields_List (within number_limit) _ _ _ c.all.ensures.ran (YieldsList-from_slice (drop 1 c.args.row.now) (c.iter.ensures.rest ∙ part_from c.args.row.now 1 49 (omega arith)))
    (λ x b q k. search (rules, tests))
    ∙ list_all_is (within number_limit) (drop 1 c.args.row.now)
