use Prim.Native.Nat.{ℕ}
use borrow.Author.Rules.{rules}
use borrow.Author.Tests.{tests}
use mathlib.Core.Path.{◌∙◌}
use Rattle.std.proofs.lemmas.Iterator.{YieldsList-from_range}
use Rattle.std.proofs.lemmas.Iterator.Search.{any_from_yields_List}
use Rattle.lists.proofs.Library.{any_below_is}
use Rattle.strings.proofs.Table.{given_by}
use Rattle.strings.specs.Filling.{is_it, string_in}
use Rattle.strings.proofs.is_given.Goals as goal

pub returns : goal.returns
returns c =
    let s = c.args in
    any_from_yields_List (λ (y : ℕ). is_it (string_in s.characters.now s.sizes.now y) s.w.now) _ _ _ c.any.ensures.ran
    (YieldsList-from_range 0 s.p s.p (search rules) (search rules)) (λ x b q k. search (rules, tests))
    ∙ any_below_is _ s.p
    ∙ given_by s.characters.now s.sizes.now s.w.now s.p
