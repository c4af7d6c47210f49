use mathlib.Core.Path.{sym, ◌∙◌, ap}
use Rattle.delimiters.specs.declared.Claim.{Claim}
use Rattle.derivation.specs.Actions.{begun_child}
use Rattle.derivation.proofs.begun_child.Goals as goal

pub returns-in-Strings : goal.returns-in-Strings
returns-in-Strings c =
    let a = c.args in
    c.u16_at.ensures.0 ∙ ap (λ (x : Claim). begun_child x a.ticket.now a.body) (sym c.in-Strings.is)
