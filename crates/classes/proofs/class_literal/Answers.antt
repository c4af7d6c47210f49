use borrow.Author.Rules.{rules}
use borrow.Author.Tests.{tests}
use mathlib.Core.Path.{◌∙◌, ap, sym}
use Rattle.std.proofs.lemmas.Iterator.{YieldsList-from_range}
use Rattle.std.proofs.lemmas.Iterator.Search.{find_from_yields_List}
use Rattle.std.proofs.lemmas.Iterator.Adapters.{option_map_id}
use Rattle.calculus.specs.Chains.{var_node, lit_node}
use Rattle.calculus.specs.Classes.{same_class}
use Rattle.classes.proofs.Laws.{lowest_found}
use Rattle.classes.specs.Classes.{literal_of}
use Rattle.classes.proofs.class_literal.Goals as goal

pub returns : goal.returns
returns c =
    let s = c.args in
    ap literal_of
    (sym (option_map_id c.find.result) ∙ find_from_yields_List (λ l. same_class s.labels.now (var_node s.x) (lit_node l)) _ _ c.find.result c.find.ensures.ran
    (YieldsList-from_range 0 s.m s.m (search rules) (search rules)) (λ x b q k. search (rules, tests)))
    ∙ lowest_found s.labels.now s.x 0 s.m
