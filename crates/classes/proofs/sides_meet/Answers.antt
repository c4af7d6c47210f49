use Prim.Native.Nat.{ℕ}
use borrow.Author.Rules.{rules}
use borrow.Author.Tests.{tests}
use mathlib.Core.Path.{◌∙◌}
use Rattle.std.proofs.lemmas.Iterator.{YieldsList-from_range, serves_from_Range}
use Rattle.std.proofs.lemmas.Iterator.Search.{any_from_yields_List}
use mathlib.Core.List.{[], ◌∷◌}
use Rattle.calculus.specs.Classes.{sides_meet}
use Rattle.rows.specs.Rows.{fact_of, row_at}
use Rattle.classes.proofs.Laws.{row_sized, sides_range}
use Rattle.classes.proofs.sides_meet.Goals as goal

pub any-requires-clause-callable : goal.any-requires-clause-callable
any-requires-clause-callable c = serves_from_Range (λ x q k. search (rules, tests)) (λ x low high. search (rules, row_sized))

pub returns : goal.returns
returns c =
    let s = c.args in
    any_from_yields_List (λ (k : ℕ). sides_meet s.labels.now (fact_of (row_at s.work.now k) ∷ [])) _ _ _ c.any.ensures.ran
    (YieldsList-from_range 0 s.count s.count (search rules) (search rules)) (λ x b q k. search (rules, tests))
    ∙ sides_range s.labels.now s.work.now s.count
