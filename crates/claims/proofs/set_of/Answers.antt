use mathlib.Core.Path.{sym, subst}
use Rattle.delimiters.specs.declared.Claim.{Claim}
use Rattle.claims.specs.Steps.{SetOf}
use Rattle.claims.proofs.set_of.Goals as goal

pub returns-in-NoSolution : goal.returns-in-NoSolution
unfolding SetOf
returns-in-NoSolution c =
    let a = c.args in
    subst
    (λ (x : Claim). SetOf x a.rule a.ticket.now a.s a.«at» a.size a.work.now a.count a.sets.now a.grounds.unions c.step_set.result)
    (sym c.in-NoSolution.is) c.step_set.ensures

pub returns-in-Strings : goal.returns-in-Strings
unfolding SetOf
returns-in-Strings c =
    let a = c.args in
    subst
    (λ (x : Claim). SetOf x a.rule a.ticket.now a.s a.«at» a.size a.work.now a.count a.sets.now a.grounds.unions c.no_constraint.result)
    (sym c.in-Strings.is) tt
