use borrow.Author.Rules.{rules}
use borrow.Author.Tests.{tests}
use mathlib.Core.Path.{◌∙◌}
use Rattle.std.proofs.lemmas.Iterator.{YieldsList-from_range}
use Rattle.std.proofs.lemmas.Iterator.Search.{any_from_yields_List}
use Rattle.calculus.specs.Classes.{literal_meets}
use Rattle.lists.proofs.Library.{any_below_is}
use Rattle.classes.proofs.literals_meet.Goals as goal

pub returns : goal.returns
returns c =
    let s = c.args in
    any_from_yields_List (literal_meets s.labels.now) _ _ _ c.any.ensures.ran
    (YieldsList-from_range 0 s.m s.m (search rules) (search rules)) (λ x b q k. search (rules, tests))
    ∙ any_below_is _ s.m
