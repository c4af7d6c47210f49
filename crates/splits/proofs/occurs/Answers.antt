use lib.Dec.{eqb}
use Rattle.std.proofs.Common.{refl, ◌∙◌, rules, tests}
use Rattle.std.proofs.lemmas.Iterator.Search.{any_from_yields_List}
use Rattle.std.proofs.lemmas.Iterator.Consumers.{YieldsList-from_first}
use Rattle.lists.proofs.Library.{list_any_is}
use Rattle.format.specs.Fields.{fields, u16, u16s}
use Rattle.splits.proofs.occurs.Goals as goal

pub returns : goal.returns
unfolding u16s
returns c =
    let a = c.args in
    any_from_yields_List {all = c.fields_at.result} (eqb a.x) _ _ _ c.any.ensures.ran (YieldsList-from_first _ _ _ refl) (λ x b q k. search (rules, tests))
    ∙ rw c.fields_at.ensures (list_any_is (eqb a.x) (fields 2 (u16 a.b.now) a.at a.count))
