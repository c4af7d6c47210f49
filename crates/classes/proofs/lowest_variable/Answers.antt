use borrow.Author.Rules.{rules}
use borrow.Author.Tests.{tests}
use mathlib.Core.Path.{◌∙◌, ap, sym}
use Rattle.std.specs.Option.{unwrap_or}
use Rattle.std.proofs.lemmas.Iterator.{YieldsList-from_range}
use Rattle.std.proofs.lemmas.Iterator.Adapters.{option_map_id}
use Rattle.std.proofs.lemmas.Iterator.Search.{find_from_yields_List}
use Rattle.calculus.specs.Chains.{var_node}
use Rattle.calculus.specs.Classes.{same_class}
use Rattle.classes.proofs.Laws.{first_found}
use Rattle.classes.proofs.lowest_variable.Goals as goal

pub returns : goal.returns
returns c =
    let s = c.args in
    c.unwrap_or.ensures ∙ ap (λ o. unwrap_or o s.x)
    (sym (option_map_id c.find.result) ∙ find_from_yields_List (λ y. same_class s.labels.now (var_node s.x) (var_node y)) _ _ c.find.result c.find.ensures.ran
    (YieldsList-from_range 0 s.x s.x (search rules) (search rules)) (λ x b q k. search (rules, tests)))
    ∙ first_found s.labels.now s.x 0 s.x
