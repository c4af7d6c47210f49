use borrow.Author.Rules.{rules}
use borrow.Author.Tests.{tests}
use mathlib.Core.Path.{◌∙◌}
use Rattle.std.proofs.lemmas.Iterator.{YieldsList-from_range}
use Rattle.std.proofs.lemmas.Iterator.Search.{all_from_yields_List}
use Rattle.lists.proofs.Library.{all_below_is}
use lib.IntN.{pos}
use lib.Signed.{le_z}
use Prim.Native.Nat.{ℕ}
use Rattle.calculus.specs.Facts.{len}
use Rattle.calculus.specs.Limits.{length_limit}
use Rattle.calculus.specs.Model.{model_value}
use Rattle.question.specs.Posed.{numbered}
use Rattle.leaf.proofs.Leaf.short_lengths.Goals as goal

pub returns : goal.returns
returns c =
    let s = c.args in
    all_from_yields_List (λ (x : ℕ). le_z (model_value (numbered s.self.now.s) s.self.now.model.now len x) (pos length_limit)) _ _ _ c.all.ensures.ran
    (YieldsList-from_range 0 s.self.now.s.p s.self.now.s.p (search rules) (search rules)) (λ x b q k. search (rules, tests))
    ∙ all_below_is _ s.self.now.s.p
