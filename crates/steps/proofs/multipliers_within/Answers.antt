use Rattle.std.proofs.Common.{refl, ◌∙◌, rules, tests}
use Rattle.std.proofs.lemmas.Iterator.Search.{all_from_yields_List}
use Rattle.std.proofs.lemmas.Iterator.Consumers.{YieldsList-from_first}
use Rattle.calculus.specs.Limits.{number_limit}
use Rattle.format.specs.Fields.{within}
use Rattle.steps.proofs.Loops.{multipliers_are}
use Rattle.steps.proofs.multipliers_within.Goals as goal

pub returns : goal.returns
returns c =
    let s = c.args in
    all_from_yields_List {all = c.fields_at.result} (λ t. within number_limit t.1) _ _ _ c.all.ensures.ran (YieldsList-from_first _ _ _ refl)
    (λ x t q k. search (rules, tests))
    ∙ rw c.fields_at.ensures (multipliers_are s.b.now s.at s.count)
