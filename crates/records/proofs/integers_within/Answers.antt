use Rattle.std.proofs.Common.{refl, ◌∙◌, rules, tests}
use Rattle.std.proofs.lemmas.Iterator.Search.{all_from_yields_List}
use Rattle.std.proofs.lemmas.Iterator.Consumers.{YieldsList-from_first}
use Rattle.calculus.specs.Limits.{value_limit}
use Rattle.format.specs.Fields.{within}
use Rattle.records.proofs.Fields.{all_within_is}
use Rattle.records.proofs.integers_within.Goals as goal

pub returns : goal.returns
returns c =
    let s = c.args in
    all_from_yields_List {all = c.fields_at.result} (within value_limit) _ _ _ c.all.ensures.ran (YieldsList-from_first _ _ _ refl) (λ x b q k. search (rules, tests))
    ∙ rw c.fields_at.ensures (all_within_is s.v.now s.at s.count)
