use borrow.Author.Rules.{rules}
use borrow.Author.Tests.{tests}
use mathlib.Core.Path.{◌∙◌}
use Rattle.std.proofs.lemmas.Iterator.{YieldsList-from_range, serves_from_Range}
use Rattle.std.proofs.lemmas.Iterator.Search.{all_from_yields_List}
use Rattle.lists.proofs.Library.{all_below_is}
use Rattle.question.specs.Posed.{asked}
use Rattle.leaf.specs.Values.{by_earlier}
use Rattle.leaf.proofs.Leaf.every_fits.Goals as goal

pub all-requires-clause-callable : goal.all-requires-clause-callable
all-requires-clause-callable c = serves_from_Range (λ x q k. search (rules, tests)) (λ x low high. search rules)

pub returns : goal.returns
returns c =
    let s = c.args in
    all_from_yields_List (by_earlier (asked s.self.now.ticket.now s.self.now.s) s.self.now.labels.now s.self.now.model.now) _ _ _ c.all.ensures.ran
    (YieldsList-from_range 0 s.self.now.s.p s.self.now.s.p (search rules) (search rules)) (λ x b q k. search (rules, tests))
    ∙ all_below_is _ s.self.now.s.p
