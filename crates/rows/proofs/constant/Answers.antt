use Rattle.std.proofs.Common.{arith, drop, rules, tests, ◌∙◌}
use Rattle.std.proofs.lemmas.Iterator.{YieldsList-from_slice}
use Rattle.std.proofs.lemmas.Iterator.Search.{all_from_yields_List}
use mir.Syntax.{w64}
use mir.Val.{SFits}
use Rattle.calculus.specs.LinearForms.{is_zero}
use Rattle.lists.proofs.Library.{list_all_is}
use Rattle.rows.proofs.Chains.{part_from}
use Rattle.rows.proofs.Tested.{zero_test}
use Rattle.rows.proofs.constant.Goals as goal

pub returns : goal.returns
returns c =
    all_from_yields_List is_zero _ _ _ c.all.ensures.ran (YieldsList-from_slice (drop 2 c.args.row.now) (c.iter.ensures.rest ∙ part_from c.args.row.now 2 48 (omega arith)))
    (λ x b q k. let f : SFits w64 x.now = search (rules, tests) in let t = zero_test x.now f in search (rules, tests))
    ∙ list_all_is is_zero (drop 2 c.args.row.now)
