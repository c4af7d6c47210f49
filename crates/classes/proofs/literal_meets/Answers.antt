use Prim.Native.Nat.{ℕ}
use borrow.Author.Rules.{rules}
use borrow.Author.Tests.{tests}
use mathlib.Core.Path.{◌∙◌}
use Rattle.std.proofs.lemmas.Iterator.{YieldsList-from_range}
use Rattle.std.proofs.lemmas.Iterator.Search.{any_from_yields_List}
use Rattle.calculus.specs.Chains.{lit_node}
use Rattle.calculus.specs.Classes.{same_class}
use Rattle.lists.proofs.Library.{any_below_is}
use Rattle.classes.proofs.literal_meets.Goals as goal

pub returns : goal.returns
returns c =
    let s = c.args in
    any_from_yields_List (λ (j : ℕ). same_class s.labels.now (lit_node s.i) (lit_node j)) _ _ _ c.any.ensures.ran
    (YieldsList-from_range 0 s.i s.i (search rules) (search rules)) (λ x b q k. search (rules, tests))
    ∙ any_below_is _ s.i
