use lib.Dec.{ltb}
use Rattle.std.proofs.Common.{refl, ◌∙◌, rules, tests}
use Rattle.std.proofs.lemmas.Iterator.Search.{all_from_yields_List}
use Rattle.std.proofs.lemmas.Iterator.Consumers.{YieldsList-from_first}
use Rattle.steps.proofs.Loops.{variables_are}
use Rattle.steps.proofs.variables_below.Goals as goal

pub returns : goal.returns
returns c =
    let s = c.args in
    all_from_yields_List {all = c.fields_at.result} (λ x. ltb x s.p) _ _ _ c.all.ensures.ran (YieldsList-from_first _ _ _ refl)
    (λ x t q k. search (rules, tests))
    ∙ rw c.fields_at.ensures (variables_are s.b.now s.p s.at s.count)
