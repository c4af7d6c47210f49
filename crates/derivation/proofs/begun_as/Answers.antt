use borrow.Author.Tests.{le-leb, lt-leb}
use mathlib.Core.Path.{sym, ◌∙◌, ap}
use mathlib.Core.Bool.{cond}
use Rattle.delimiters.specs.declared.Claim.{Claim}
use Rattle.derivation.specs.Actions.{begun_as}
use Rattle.derivation.specs.declared.Action.TheVariants.{Extends, Splits}
use Rattle.derivation.proofs.begun_as.Goals as goal

pub returns-then-last-le1 : goal.returns-then-last-le1
returns-then-last-le1 c =
    let a = c.args in
    ap (λ t. cond t (Extends a.begun) (Splits a.begun a.last)) (sym (le-leb a.last 1 c.if-last-le1.true))
    ∙ ap (λ (x : Claim). begun_as x a.last a.begun) (sym c.in-NoSolution.is)

pub returns-else-last-le1 : goal.returns-else-last-le1
returns-else-last-le1 c =
    let a = c.args in
    ap (λ t. cond t (Extends a.begun) (Splits a.begun a.last)) (sym (lt-leb a.last 1 c.if-last-le1.false))
    ∙ ap (λ (x : Claim). begun_as x a.last a.begun) (sym c.in-NoSolution.is)

pub returns-in-Strings : goal.returns-in-Strings
returns-in-Strings c = let a = c.args in ap (λ (x : Claim). begun_as x a.last a.begun) (sym c.in-Strings.is)
