use borrow.Author.Rules.{rules}
use borrow.Author.Tests.{tests}
use mathlib.Core.Path.{◌∙◌}
use Rattle.std.proofs.lemmas.Iterator.{YieldsList-from_range}
use Rattle.std.proofs.lemmas.Iterator.Consumers.{YieldsList-from_filter, count_from_yields_List}
use Rattle.question.specs.Posed.{numbered}
use Rattle.leaf.proofs.Laws.{classes_counted, is_lowest}
use Rattle.leaf.proofs.Signed.{bits_equal}
use Rattle.leaf.proofs.Leaf.classes_of.Goals as goal

pub returns-clause-value : goal.returns-clause-value
returns-clause-value c =
    let s = c.args in
    count_from_yields_List _ c.count.result c.count.ensures.ran
    (YieldsList-from_filter _ (is_lowest (numbered s.self.now.s) s.self.now.labels.now s.self.now.model.now s.wanted)
    (YieldsList-from_range 0 s.self.now.s.p s.self.now.s.p (search rules) (search rules)) c.filter.ensures.closure (λ x b q k. search (rules, tests, bits_equal)))
    ∙ classes_counted (numbered s.self.now.s) s.self.now.labels.now s.self.now.model.now s.wanted s.self.now.s.p
