use borrow.Author.Rules.{rules}
use borrow.Author.Tests.{tests}
use mathlib.Core.Path.{◌∙◌}
use Rattle.std.proofs.lemmas.Iterator.{YieldsList-from_range}
use Rattle.std.proofs.lemmas.Iterator.Search.{all_from_yields_List}
use Rattle.lists.proofs.Library.{all_below_is}
use lib.IntN.{ℤ}
use Rattle.lists.specs.Lists.{all_below}
use mathlib.Core.Path.{ap₂}
use Rattle.question.specs.Posed.{numbered}
use Rattle.leaf.specs.Values.{pair_fits, pair_with}
use Rattle.leaf.proofs.Leaf.pairs_fit.Goals as goal

pub returns : goal.returns
unfolding pair_fits
returns c =
    let s = c.args in
    all_from_yields_List (pair_with (numbered s.self.now.s) s.self.now.labels.now s.self.now.model.now s.x c.value_of-len.result c.value_of-code.result) _ _ _ c.all.ensures.ran
    (YieldsList-from_range 0 s.x s.x (search rules) (search rules)) (λ x b q k. search (rules, tests))
    ∙ all_below_is _ s.x
    ∙ ap₂ (λ (z w : ℤ). all_below s.x (pair_with (numbered s.self.now.s) s.self.now.labels.now s.self.now.model.now s.x z w)) c.value_of-len.ensures c.value_of-code.ensures
