use Rattle.std.proofs.Common.{refl, ◌∙◌, rules, tests}
use Rattle.std.proofs.lemmas.Iterator.Consumers.{YieldsList-from_first}
use Rattle.std.proofs.lemmas.Iterator.Search.{all_from_yields_List}
use Rattle.calculus.specs.Extended.{is_digit}
use Rattle.format.specs.Fields.{u32s}
use Rattle.lists.proofs.Library.{list_all_is}
use Rattle.extended.proofs.all_digits.Goals as goal

pub returns : goal.returns
unfolding u32s
returns c =
    let s = c.args in
    all_from_yields_List {all = c.fields_at.result} is_digit _ _ _ c.all.ensures.ran (YieldsList-from_first _ _ _ refl) (λ x b q k. search (rules, tests))
    ∙ rw c.fields_at.ensures (list_all_is is_digit (u32s s.v.now s.at s.count))
